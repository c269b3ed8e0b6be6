-- "Rearrange an accepted book's customers, or take out some", each of them with its trades in another order that keeps equal stamps as they are:
-- the book of some of its groups, in any order, is accepted with just those customers. Each group describes its customer wherever it stands, the codes stay distinct, and the book grows no longer.
-- Assumes nothing.
use Rattle.std.specs.Prelude.{ℕ, ◌+◌, ◌≤◌, ◌≡◌, refl, List, [], ◌∷◌, ◌++◌, length}
use Rattle.std.proofs.Common.{ap, length-append, arith}
use Rattle.rules.specs.declared.Terms.{Terms}
use Rattle.rules.specs.Division.{sum_of}
use Rattle.rules.specs.Report.{joined}
use Rattle.consequences.specs.Rearranged.{Parts, together, cut_in, parts_of, picked, regrouped, Below, Once, front_of, trades_of, made_at, Retraded}
use Rattle.rules.specs.Book.{Customer, Accepted, judge}
use Rattle.laws.specs.Sums.{sum_one, sum-append}
use Rattle.consequences.specs.Picks.{sum_chosen_le, all2_picked}
use Rattle.laws.specs.All2.{All2, all2_length}
use Rattle.consequences.specs.Described.{Describes}
use Rattle.laws.specs.Sane.{code_in}
use Rattle.consequences.specs.Framed.{cuts_joined}
use Rattle.consequences.specs.Front.{front_trades}
use Rattle.consequences.specs.Retrade.{sum_other}
use Rattle.consequences.specs.Same.{retraded_describes}
use Rattle.consequences.specs.DistinctPicks.{distinct_picked}
use Rattle.consequences.specs.Accepted.{Built, accepted_built, built_accepted}

pub length_joined : {A : Type 0} (f : A → List ℕ) (l : List A) → length (joined f l) ≡ sum_of (λ a. length (f a)) l
length_joined f [] = refl
length_joined f (a ∷ rest) = omega (arith, length-append (f a) (joined f rest), length_joined f rest)

length_together : (p : Parts) → length (together p) ≡ length p.terms + sum_of length p.groups + length p.end
length_together p =
    omega (arith, length-append (p.terms ++ joined (λ g. g) p.groups) p.end, length-append p.terms (joined (λ g. g) p.groups), length_joined (λ g. g) p.groups)

-- a group with its trades in another order is as long
cuts_length : (g : List ℕ) → length g ≡ sum_of length (front_of g) + sum_of length (trades_of g)
cuts_length g =
    let ks = cut_in (length g) g in
    omega (arith, ap length (cuts_joined (length g) g (omega arith)), length_joined (λ k. k) ks, ap (sum_of length) (front_trades ks), sum-append length (front_of g) (trades_of g))

retraded_length : (g h : List ℕ) → Retraded g h → length g ≡ length h
retraded_length g h r = omega (arith, cuts_length g, cuts_length h, ap (sum_of length) r.front, sum_other made_at length _ _ r.trades)

retraded_lengths : (gs hs : List (List ℕ)) → All2 Retraded gs hs → sum_of length gs ≡ sum_of length hs
retraded_lengths [] [] h = refl
retraded_lengths [] (x ∷ hs) h = absurd h
retraded_lengths (g ∷ gs) [] h = absurd h
retraded_lengths (g ∷ gs) (x ∷ hs) h = omega (arith, retraded_length g x h.0, retraded_lengths gs hs h.1)

all_describe : (terms : Terms) (gs hs : List (List ℕ)) (cs : List Customer) → All2 (Describes terms) gs cs → All2 Retraded gs hs → All2 (Describes terms) hs cs
all_describe terms [] [] [] d r = tt
all_describe terms [] [] (c ∷ cs) d r = absurd d
all_describe terms [] (h ∷ hs) cs d r = absurd r
all_describe terms (g ∷ gs) [] cs d r = absurd r
all_describe terms (g ∷ gs) (h ∷ hs) [] d r = absurd d
all_describe terms (g ∷ gs) (h ∷ hs) (c ∷ cs) d r = (retraded_describes terms g c d.0 h r.0, all_describe terms gs hs cs d.1 r.1)

module _ (p : Parts) (is : List ℕ) where
  abbrev some_picked : Parts
  some_picked = record { terms = p.terms; groups = picked [] p.groups is; end = p.end }

  picked_short : Below (length p.groups) is → Once is → length (together some_picked) ≤ length (together p)
  picked_short below once = omega (arith, length_together some_picked, length_together p, sum_chosen_le length [] p.groups is below once)

  picked_built : (terms : Terms) (cs : List Customer) → Built p terms cs → Below (length cs) is → Once is → (d : Customer) → Built some_picked terms (picked d cs is)
  picked_built terms cs h below once d =
      let in-groups : Below (length p.groups) is = rw (all2_length (Describes terms) p.groups cs h.groups) below in
      record {
        short = omega (arith, picked_short in-groups once, h.short);
        fields = h.fields;
        framed = h.framed;
        leads = h.leads;
        groups = all2_picked (Describes terms) [] d p.groups cs h.groups is below;
        distinct = distinct_picked code_in d cs h.distinct is below once;
        few = omega (arith, sum_chosen_le (λ c. 1) d cs is below once, sum_one cs, sum_one (picked d cs is), h.few);
        end = h.end;
      }

  -- and each of these customers' trades in another order
  retraded_built : (terms : Terms) (cs : List Customer) → Built some_picked terms cs → (hs : List (List ℕ)) → All2 Retraded (picked [] p.groups is) hs →
      Built (record { terms = p.terms; groups = hs; end = p.end }) terms cs
  retraded_built terms cs h hs r =
      record {
        short = omega (arith, length_together some_picked, length_together (record { terms = p.terms; groups = hs; end = p.end }), retraded_lengths (picked [] p.groups is) hs r, h.short);
        fields = h.fields;
        framed = h.framed;
        leads = h.leads;
        groups = all_describe terms (picked [] p.groups is) hs cs h.groups r;
        distinct = h.distinct;
        few = h.few;
        end = h.end;
      }

pub rearranged_accepted :
    (s : List ℕ) (terms : Terms) (cs : List Customer) → judge s ≡ Accepted terms cs → (is : List ℕ) → Below (length cs) is → Once is → (d : Customer) →
    (hs : List (List ℕ)) → All2 Retraded (picked [] (parts_of s).groups is) hs → judge (regrouped s hs) ≡ Accepted terms (picked d cs is)
unfolding regrouped
rearranged_accepted s terms cs e is below once d hs r =
    let p = parts_of s in
    built_accepted (record { terms = p.terms; groups = hs; end = p.end }) terms (picked d cs is)
    (retraded_built p is terms (picked d cs is) (picked_built p is terms cs (accepted_built s terms cs e) below once d) hs r)
