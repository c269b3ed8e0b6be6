-- A book that runs to its end, taken apart from any field on: what is left of the terms, or of a group, leads to where it may close, then
-- each group describes one customer, and Z ends it. By induction on the fields from the last.
-- Assumes nothing.
use Rattle.std.specs.Prelude.{ℕ, ◌≡◌, Bool, true, false, cond}
use Prim.Native.Char.{code}
use Rattle.std.proofs.Math.Path.{refl, ap}
use Rattle.std.proofs.Common.{sym, ap₂, subst, ◌∙◌, eqb-true, arith}
use mathlib.Core.List.{List, [], ◌∷◌, ◌++◌, map, append-nil}
use Rattle.std.proofs.Math.Seq.{append_snoc}
use Rattle.rules.specs.declared.Terms.{Terms}
use Rattle.rules.specs.Text.{is}
use Rattle.rules.specs.Codes.{is_code}
use Rattle.rules.specs.Fields.{Field, Whole, Cut, fields_of}
use Rattle.consequences.specs.Rearranged.{Parts, behind, parts_in}
use Rattle.rules.specs.Book.{Customer, Step, Next, Group, after_c, Due, InGroup, Stage, Reading, Ended, opens, ends, step}
use Rattle.laws.specs.All2.{All2}
use Rattle.laws.specs.Keeps.{Keeps}
use Rattle.laws.specs.OneField.{Early}
use Rattle.consequences.specs.Runs.{run, then_next, stop_not}
use Rattle.consequences.specs.Framed.{Framed, framed_append, field_in, Stands, field_stands, with_field, with_group, with_end}
use Rattle.consequences.specs.Steps.{Any, Closes, Closing, step_c, step_z, opens_next, ends_next, Onward, step_on}
use Rattle.consequences.specs.Described.{Inner, inside, inner_runs, goes_next, Describes, Made, made}

pub record Apart (terms : Terms) (due : Due) (p : Parts) (all : List Customer) : Type 0 where
  pub fields : List Field
  pub plain : Inner fields
  pub framed : Framed p.terms fields
  pub before : List Customer
  pub group : Group
  pub leads : run (Reading due) fields ≡ Next (Reading (InGroup terms before group))
  pub early : Early due → Early (InGroup terms before group)
  pub after : List Customer
  pub closes : Closes before group after
  pub new : List Customer
  pub all_is : all ≡ after ++ new
  pub groups : All2 (Describes terms) p.groups new
  pub end : fields_of p.end ≡ Whole (code "Z") [] ∷ []

module _ (terms : Terms) (all : List Customer) (due : Due) (st : Stage) (next : Terms → List Customer → Step Stage) (x : Closing due next st) (p : Parts) where
  -- from a C or Z on: nothing is left of the terms, or of the group that closes there
  at_close : p.terms ≡ [] → x.terms ≡ terms → (new : List Customer) → all ≡ x.after ++ new → All2 (Describes terms) p.groups new →
      fields_of p.end ≡ Whole (code "Z") [] ∷ [] → Apart terms due p all
  at_close none same new e groups end =
      record {
        fields = [];
        plain = tt;
        framed = λ rest. rw none;
        before = x.before;
        group = x.group;
        leads = ap (λ (d : Due). Next (Reading d)) x.due_is ∙ ap (λ (y : Terms). Next (Reading (InGroup y x.before x.group))) same;
        early = λ h. subst Early x.due_is h;
        after = x.after;
        closes = x.closes;
        new = new;
        all_is = e;
        groups = groups;
        end = end;
      }

module _ (terms : Terms) (all : List Customer) (k : List ℕ) (t : ℕ) (v : List ℕ) (stands : Stands k t v) (due : Due) where
  module _ (p : Parts) where
    -- a field that is neither C nor Z is one more of the terms, or of the group that it stands in
    field_apart : (next : Due) → is "C" t ≡ false → is "Z" t ≡ false → step due t v ≡ Next (Reading next) → (Early due → Early next) → Apart terms next p all → Apart terms due (with_field k p) all
    field_apart next c z e early a =
        record {
          fields = Whole t v ∷ a.fields;
          plain = (c, z, a.plain);
          framed = framed_append k p.terms (Whole t v ∷ []) a.fields stands.framed a.framed;
          before = a.before;
          group = a.group;
          leads = rw e a.leads;
          early = λ h. a.early (early h);
          after = a.after;
          closes = a.closes;
          new = a.new;
          all_is = a.all_is;
          groups = a.groups;
          end = a.end;
        }

    -- a C takes what stands before the next C or Z into its group, and that describes one customer
    module _ (tag : t ≡ code "C") (st : Stage) (x : Closing due (λ terms. opens terms v) st) (good : is_code v ≡ true) where
      described : (inner : List Field) → Inner inner → Framed p.terms inner → (ds : List Customer) (m : Made terms x.after v inner ds) → Describes terms (k ++ p.terms) m.customer
      described inner plain framed ds m =
          record {
            inner = inner;
            plain = plain;
            framed = subst (λ (f : Field). Framed (k ++ p.terms) (f ∷ inner)) (ap₂ Whole tag (sym m.code_is)) (framed_append k p.terms (Whole t v ∷ []) inner stands.framed framed);
            good = ap is_code m.code_is ∙ good;
            whole = m.whole;
          }

      customer_apart : (a : Apart terms (InGroup x.terms x.after (after_c v)) p all) → x.terms ≡ terms → Made terms x.after v a.fields a.after → Apart terms due (with_group k p) all
      customer_apart a same m =
          at_close terms all due st (λ terms. opens terms v) x (with_group k p) refl same (m.customer ∷ a.new)
          (a.all_is ∙ ap (λ (l : List Customer). l ++ a.new) (sym m.joins) ∙ append_snoc x.after m.customer a.new)
          (described a.fields a.plain a.framed a.after m, a.groups)
          a.end

      group_apart : Apart terms (InGroup x.terms x.after (after_c v)) p all → Apart terms due (with_group k p) all
      group_apart a = go (goes_next x.terms x.after _ terms a.before a.group (sym (inner_runs x.terms x.after (after_c v) a.fields a.plain) ∙ a.leads))
        where
          go : (x.terms ≡ terms) × (x.after ≡ a.before) × (inside x.terms (after_c v) a.fields ≡ Next a.group) → Apart terms due (with_group k p) all
          go g =
              customer_apart a g.0 (made terms x.after v a.fields a.after a.group
              (subst (λ (y : Terms). inside y (after_c v) a.fields ≡ Next a.group) g.0 g.2)
              (subst (λ (l : List Customer). Closes l a.group a.after) (sym g.1) a.closes))

  -- a Z ends the book, and nothing follows
  end_apart : t ≡ code "Z" → v ≡ [] → (st : Stage) (x : Closing due (λ terms. ends terms v) st) (ks : List (List ℕ)) → run (Ended x.terms x.after) (map field_in ks) ≡ Next (Ended terms all) →
      Apart terms due (with_end k (parts_in ks)) all
  unfolding fields_of
  end_apart tag z st x [] r =
      let same : x.terms ≡ terms = cc in
      let whole : x.after ≡ all = cc in
      at_close terms all due st (λ terms. ends terms v) x (with_end k (parts_in [])) refl same [] (sym (append-nil x.after ∙ whole)) tt
      (stands.framed [] ∙ ap (λ (f : Field). f ∷ []) (ap₂ Whole tag z))
  end_apart tag z st x (l ∷ ks) r = stop_not r

-- a book from one field on, where the same holds from the next
module _ (terms : Terms) (all : List Customer) (k : List ℕ) (ks : List (List ℕ)) (due : Due)
    (later : (next : Due) → run (Reading next) (map field_in ks) ≡ Next (Ended terms all) → Apart terms next (parts_in ks) all) where
  module _ (t : ℕ) (v : List ℕ) (stands : Stands k t v) (st : Stage) (e : step due t v ≡ Next st) (r : run st (map field_in ks) ≡ Next (Ended terms all)) where
    onward : is "C" t ≡ false → is "Z" t ≡ false → Apart terms due (with_field k (parts_in ks)) all
    onward c z = go st e r (subst (Keeps Any (Onward due)) e (step_on due t v c z))
      where
        go : (st : Stage) → step due t v ≡ Next st → run st (map field_in ks) ≡ Next (Ended terms all) → Onward due st → Apart terms due (with_field k (parts_in ks)) all
        go (Ended ts cs) e r on = absurd on
        go (Reading next) e r on = field_apart terms all k t v stands due (parts_in ks) next c z e on (later next r)

    opened : t ≡ code "C" → Apart terms due (with_group k (parts_in ks)) all
    opened tag =
        let x = step_c due v st (subst (λ (y : ℕ). step due y v ≡ Next st) tag e) in
        let o = opens_next x.terms v x.after st x.leads in
        group_apart terms all k t v stands due (parts_in ks) tag st x o.0
        (later (InGroup x.terms x.after (after_c v)) (subst (λ (y : Stage). run y (map field_in ks) ≡ Next (Ended terms all)) o.1 r))

    ended : t ≡ code "Z" → Apart terms due (with_end k (parts_in ks)) all
    ended tag =
        let x = step_z due v st (subst (λ (y : ℕ). step due y v ≡ Next st) tag e) in
        let z = ends_next x.terms v x.after st x.leads in
        end_apart terms all k t v stands due tag z.0 st x ks (subst (λ (y : Stage). run y (map field_in ks) ≡ Next (Ended terms all)) z.1 r)

  one_more : (f : Field) → field_in k ≡ f → run (Reading due) (f ∷ map field_in ks) ≡ Next (Ended terms all) → Apart terms due (behind k (parts_in ks)) all
  one_more Cut f e = stop_not e
  one_more (Whole t v) f e =
      let h = field_stands k t v f in
      let n = then_next (step due t v) (λ st. run st (map field_in ks)) (Ended terms all) e in
      rw h.tag (go h n.0 n.1 n.2 (is "C" t) (is "Z" t) refl refl)
    where
      go : Stands k t v → (st : Stage) → step due t v ≡ Next st → run st (map field_in ks) ≡ Next (Ended terms all) → (c z : Bool) → is "C" t ≡ c → is "Z" t ≡ z →
          Apart terms due (cond c (with_group k (parts_in ks)) (cond z (with_end k (parts_in ks)) (with_field k (parts_in ks)))) all
      go h st q r true z x y = opened t v h st q r (eqb-true t (code "C") x)
      go h st q r false true x y = ended t v h st q r (eqb-true t (code "Z") y)
      go h st q r false false x y = onward t v h st q r x y

pub apart_from : (terms : Terms) (all : List Customer) (ks : List (List ℕ)) (due : Due) → run (Reading due) (map field_in ks) ≡ Next (Ended terms all) → Apart terms due (parts_in ks) all
apart_from terms all [] due e = absurd (let z : ◌≡◌ {A = ℕ} 0 1 = cc in omega arith)
apart_from terms all (k ∷ ks) due e = one_more terms all k ks due (apart_from terms all ks) (field_in k) refl e
