-- Groups that each describe one customer, put together: from where the first may begin they lead, with Z after them, to the end of the
-- book with just those customers, if each is new to those before it.
-- Assumes nothing.
use Rattle.std.specs.Prelude.{ℕ, ◌≡◌, refl}
use Prim.Native.Char.{code}
use Rattle.std.proofs.Math.Path.{ap}
use Rattle.std.proofs.Common.{◌∙◌}
use mathlib.Core.List.{List, [], ◌∷◌, ◌++◌, append-nil, append_assoc}
use Rattle.std.proofs.Math.Seq.{append_snoc}
use Rattle.rules.specs.declared.Terms.{Terms}
use Rattle.rules.specs.Report.{joined}
use Rattle.rules.specs.Fields.{Field, Whole, fields_of}
use Rattle.rules.specs.Book.{Customer, Next, Group, Open, after_c, InGroup, Reading, Ended, opens, ends, step}
use Rattle.consequences.specs.Runs.{run, run_append}
use Rattle.consequences.specs.Steps.{Closes, next_closed, next_opens}
use Rattle.consequences.specs.Described.{inner_runs, Describes}
use Rattle.laws.specs.All2.{All2}
use Rattle.consequences.specs.NoneTwice.{Fresh}

module _ (terms : Terms) where
  -- a group after some customers, of whom the last may be open: then its own customer is
  group_runs :
      (cs : List Customer) (g : Group) (after : List Customer) (c : Customer) (ds : List Customer) → Closes cs g after → Fresh after (c ∷ ds) → (k : List ℕ) (d : Describes terms k c) (fs : List Field) →
      run (Reading (InGroup terms cs g)) ((Whole (code "C") c.code ∷ d.inner) ++ fs) ≡ run (Reading (InGroup terms after (Open d.whole.last c))) fs
  unfolding step
  group_runs cs g after c ds h f k d fs =
      rw (next_closed cs g (opens terms c.code) after h, next_opens terms c.code after f.0 d.good f.1)
      (run_append (Reading (InGroup terms after (after_c c.code))) d.inner fs
      ∙ rw (inner_runs terms after (after_c c.code) d.inner d.plain, d.whole.reads))

  pub groups_run :
      (end : List ℕ) → fields_of end ≡ Whole (code "Z") [] ∷ [] → (gs : List (List ℕ)) (ds cs : List Customer) (g : Group) (after : List Customer) → Closes cs g after → Fresh after ds → All2 (Describes terms) gs ds →
      run (Reading (InGroup terms cs g)) (fields_of (joined (λ k. k) gs ++ end)) ≡ Next (Ended terms (after ++ ds))
  unfolding step
  groups_run end e [] [] cs g after h f a = rw (e, next_closed cs g (ends terms []) after h, append-nil after)
  groups_run end e [] (c ∷ ds) cs g after h f a = absurd a
  groups_run end e (k ∷ gs) [] cs g after h f a = absurd a
  groups_run end e (k ∷ gs) (c ∷ ds) cs g after h f a =
      rw (append_assoc k (joined (λ l. l) gs) end, a.0.framed (joined (λ l. l) gs ++ end))
      (group_runs cs g after c ds h f k a.0 (fields_of (joined (λ l. l) gs ++ end))
      ∙ groups_run end e gs ds after (Open a.0.whole.last c) (after ++ c ∷ []) (a.0.whole.may_end_lem, a.0.whole.covered, refl) f.2 a.1
      ∙ ap (λ (l : List Customer). Next (Ended terms l)) (append_snoc after c ds))
