-- What an accepted book is: terms, then a group for each customer, each judged by itself, then Z; at most 60,000 bytes, at most 256
-- customers and no code twice. A book that is accepted is so, and a book that is put together so is accepted.
-- Assumes nothing.
use Rattle.std.specs.Prelude.{ℕ, ◌≤◌, ◌<◌, ◌≡◌, refl, length, get_or}
use Prim.Native.Char.{code}
use Rattle.std.proofs.Common.{sym, subst, ◌∙◌, arith}
use Rattle.std.proofs.Math.Path.{ap}
use mathlib.Core.List.Memᴰ
use mathlib.Core.List.{List, [], ◌∷◌, ◌++◌, append-nil, append_assoc}
use Rattle.rules.specs.declared.Terms.{Terms}
use Rattle.rules.specs.Limits.{longest_book, most_customers}
use Rattle.rules.specs.Report.{joined}
use Rattle.rules.specs.Fields.{Field, Whole, fields_of}
use Rattle.consequences.specs.Rearranged.{Parts, together, cut_in, parts_of}
use Rattle.rules.specs.Book.{Customer, Next, Group, Nobody, InGroup, at_front, Reading, Ended, Accepted, judge}
use Rattle.laws.specs.ShareSum.{Distinct}
use Rattle.laws.specs.All2.{All2, all2_length, all2_at}
use Rattle.consequences.specs.Runs.{run, run_append, accepted_runs, runs_accepted}
use Rattle.consequences.specs.Framed.{Framed, fields_cuts, parts_together}
use Rattle.consequences.specs.Steps.{Closes}
use Rattle.consequences.specs.Described.{Describes}
use Rattle.laws.specs.Sane.{code_in, Customers, accepted_sane}
use Rattle.consequences.specs.Apart.{Apart, apart_from}
use Rattle.consequences.specs.PutTogether.{groups_run}
use Rattle.consequences.specs.NoneTwice.{Fresh, distinct_fresh}

pub record Built (p : Parts) (terms : Terms) (cs : List Customer) : Type 0 where
  pub short : length (together p) ≤ longest_book
  pub fields : List Field
  pub framed : Framed p.terms fields
  pub leads : run (Reading at_front) fields ≡ Next (Reading (InGroup terms [] Nobody))
  pub groups : All2 (Describes terms) p.groups cs
  pub distinct : Distinct code_in cs
  pub few : length cs ≤ most_customers
  pub end : fields_of p.end ≡ Whole (code "Z") [] ∷ []

module _ (p : Parts) (terms : Terms) (cs : List Customer) where
  -- nobody's group is open where the terms end
  apart_built : length (together p) ≤ longest_book → Customers cs → Apart terms at_front p cs → Built p terms cs
  apart_built short sane a =
      let none : a.before ≡ [] = (a.early tt).0 in
      let nobody : a.group ≡ Nobody = (a.early tt).1 in
      let first : [] ≡ a.after = subst (λ (g : Group). Closes [] g a.after) nobody (subst (λ (l : List Customer). Closes l a.group a.after) none a.closes) in
      let same : cs ≡ a.new = a.all_is ∙ ap (λ (l : List Customer). l ++ a.new) (sym first) in
      record {
        short = short;
        fields = a.fields;
        framed = a.framed;
        leads = a.leads ∙ rw (none, nobody);
        groups = subst (All2 (Describes terms) p.groups) (sym same) a.groups;
        distinct = sane.distinct;
        few = sane.few;
        end = a.end;
      }

  module _ (h : Built p terms cs) where
    built_runs : run (Reading at_front) (fields_of (together p)) ≡ Next (Ended terms cs)
    built_runs =
        let gs = joined (λ g. g) p.groups in
        let fresh : Fresh [] cs = distinct_fresh cs [] (λ a b m n. absurd (Memᴰ.not-nil m)) h.distinct (omega (arith, h.few)) in
        rw (append_assoc p.terms gs p.end, h.framed (gs ++ p.end))
        (run_append (Reading at_front) h.fields (fields_of (gs ++ p.end))
        ∙ rw h.leads (groups_run terms p.end h.end p.groups cs [] Nobody [] refl fresh h.groups))

    pub built_accepted : judge (together p) ≡ Accepted terms cs
    built_accepted = runs_accepted terms cs (together p) h.short built_runs

module _ (s : List ℕ) (terms : Terms) (cs : List Customer) (e : judge s ≡ Accepted terms cs) where
  pub accepted_built : Built (parts_of s) terms cs
  unfolding parts_of
  accepted_built =
      let r = accepted_runs terms cs s e in
      let whole : together (parts_of s) ≡ s = parts_together s in
      apart_built (parts_of s) terms cs (rw whole r.0) (accepted_sane s terms cs e)
      (apart_from terms cs (cut_in (length s) s) at_front (subst (λ (fs : List Field). run (Reading at_front) fs ≡ Next (Ended terms cs)) (fields_cuts s) r.1))

  -- a group for each customer, in their order
  pub groups_of_customers : length (parts_of s).groups ≡ length cs
  groups_of_customers = all2_length (Describes terms) (parts_of s).groups cs accepted_built.groups

  pub group_describes : (i : ℕ) (d : Customer) → i < length cs → Describes terms (get_or (parts_of s).groups i []) (get_or cs i d)
  group_describes i d h = all2_at (Describes terms) [] d (parts_of s).groups cs accepted_built.groups i h

  -- a group begins with a C and its customer's code
  pub group_begins : (i : ℕ) (d : Customer) → i < length cs → (fs : List Field) × (fields_of (get_or (parts_of s).groups i []) ≡ Whole (code "C") (get_or cs i d).code ∷ fs)
  unfolding fields_of
  group_begins i d h =
      let k = group_describes i d h in
      (k.inner, ap fields_of (sym (append-nil (get_or (parts_of s).groups i []))) ∙ k.framed [] ∙ append-nil _)
