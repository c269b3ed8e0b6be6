-- The first line, and what the days behind it come to: the verdict on a list by its parts.
-- Assumes nothing.
use Rattle.std.specs.Prelude.{ℕ, ◌≤◌, Bool, true, false, cond, List, map, length, drop, ltb, Ok, Option, Some, None, option_map, MatchResult}
use Rattle.std.proofs.Math.Path.{◌≡◌, refl, sym, ap}
use Rattle.std.proofs.Common.{◌∙◌, add-one, arith}
use denote.Bor.{Bor}
use Rattle.rules.specs.Text.{bytes}
use Rattle.rules.specs.Codes.{same}
use Rattle.rules.specs.Figures.{up_to, after}
use Rattle.laws.specs.ByTest.{by_test}
use Rattle.days.specs.declared.Metal.{Metal}
use Rattle.days.specs.declared.Metal.TheVariants.{Gold, Silver}
use Rattle.days.specs.declared.Day.{Day}
use Rattle.days.specs.declared.Head.{Head}
use Rattle.days.specs.declared.DayList.{DayList}
use Rattle.days.specs.Refusal.{number_of}
use Rattle.days.specs.Lines.{lines_of}
use Rattle.days.specs.Listed.{Days, All, Stop, Verdict, Refused, Accepted, of_metal, no_list, days_from, headed, list_of, verdict_of}
use Rattle.days.specs.Places.{start_of, head_in, head_of, days_left, count_of, IsTaken}
use Rattle.days.specs.Parts.{drop_after}
use Rattle.days.specs.Steps.{Shape, none, cut, whole, shape}
use Rattle.days.specs.Passing.{all_left}

abbrev pub head : Metal → ℕ → Head
head metal start = record { metal = metal; start = start }

abbrev pub named : Bool → Bool → ℕ → Option Head
named a b n = option_map (λ metal. head metal n) (cond a (Some Gold) (cond b (Some Silver) None))

abbrev pub listed : Bool → Bool → (Metal → Verdict) → Verdict
listed a b next = cond a (next Gold) (cond b (next Silver) no_list)

pick : (a b : Bool) (n : ℕ) (metal : Metal) (start : ℕ) → named a b n ≡ Some (head metal start) → (start ≡ n) × ((next : Metal → Verdict) → listed a b next ≡ next metal)
pick true b n metal start h = let q : head Gold n ≡ head metal start = cc in (sym (ap (λ (g : Head). g.start) q), λ next. ap (λ (g : Head). next g.metal) q)
pick false true n metal start h = let q : head Silver n ≡ head metal start = cc in (sym (ap (λ (g : Head). g.start) q), λ next. ap (λ (g : Head). next g.metal) q)
pick false false n metal start h = absurd (let z : ◌≡◌ {A = ℕ} 0 1 = cc in omega arith)

pick_none : (a b : Bool) (n : ℕ) → named a b n ≡ None → (next : Metal → Verdict) → listed a b next ≡ no_list
pick_none true b n h next = absurd (let z : ◌≡◌ {A = ℕ} 0 1 = cc in omega arith)
pick_none false true n h next = absurd (let z : ◌≡◌ {A = ℕ} 0 1 = cc in omega arith)
pick_none false false n h next = refl

-- a metal was named
pub record Headed (s : List ℕ) (metal : Metal) (start : ℕ) : Type 0 where
  pub place : start ≡ start_of s
  pub inside : start ≤ length s
  pub days : (long : Bool) → list_of long (lines_of s) ≡ of_metal metal (days_from long 1 (lines_of (drop start s)))

behind : (s : List ℕ) (start : ℕ) → start ≡ start_of s → after "\n" s ≡ drop start s
behind s start e = sym (rw (e, add-one) (drop_after "\n" s))

module _ (s : List ℕ) where
  pub head_of_lem : (metal : Metal) (start : ℕ) → head_of s ≡ Some (head metal start) → Headed s metal start
  unfolding head_of list_of lines_of
  head_of_lem metal start = go (shape s)
    where
      go : Shape s → head_in (lines_of s) ≡ Some (head metal start) → Headed s metal start
      go (none e) h = absurd (let q = rw e at h in let z : ◌≡◌ {A = ℕ} 0 1 = cc in omega arith)
      go (cut p e l) h = absurd (let q = rw l at h in let z : ◌≡◌ {A = ℕ} 0 1 = cc in omega arith)
      go (whole p l) h =
          let u = up_to "\n" s in
          let q = pick (same u (bytes "gold")) (same u (bytes "silver")) (start_of s) metal start (rw l at h) in
          record {
            place = q.0;
            inside = omega (arith, q.0);
            days = λ long. rw l (q.1 (λ m. of_metal m (days_from long 1 (lines_of (after "\n" s)))) ∙ ap (λ r. of_metal metal (days_from long 1 (lines_of r))) (behind s start q.0));
          }

  pub head_other : head_of s ≡ None → (long : Bool) → list_of long (lines_of s) ≡ no_list
  unfolding head_of list_of lines_of
  head_other = go (shape s)
    where
      go : Shape s → head_in (lines_of s) ≡ None → (long : Bool) → headed (lines_of s) (λ metal days. of_metal metal (days_from long 1 days)) ≡ no_list
      go (none e) h long = rw e
      go (cut p e l) h long = rw l
      go (whole p l) h long =
          let u = up_to "\n" s in
          rw l (pick_none (same u (bytes "gold")) (same u (bytes "silver")) (start_of s) (rw l at h) (λ m. of_metal m (days_from long 1 (lines_of (after "\n" s)))))

-- the days of an accepted list
all_of : (metal m : Metal) (r : Days) (ds : List Day) → of_metal metal r ≡ Accepted m ds → (r ≡ All ds) × (metal ≡ m)
all_of metal m (All es) ds h = let e : es ≡ ds = cc in (ap All e, cc)
all_of metal m (Stop n place) ds h = absurd (let z : ◌≡◌ {A = ℕ} 0 1 = cc in omega arith)

module _ (long : Bool) (total : ℕ) (s : List ℕ) where
  pub accepted_days : (metal : Metal) (ds : List Day) → verdict_of long total s ≡ Accepted metal ds → days_from long 1 (lines_of (drop (start_of s) s)) ≡ All ds
  unfolding verdict_of
  accepted_days metal ds = by_test (ltb 2_001 total)
      (λ b h. absurd (let q = simp b at h in let z : ◌≡◌ {A = ℕ} 0 1 = cc in omega arith))
      (λ b h. by_head (head_of s) refl (simp b at h))
    where
      by_head : (g : Option Head) → head_of s ≡ g → list_of long (lines_of s) ≡ Accepted metal ds → days_from long 1 (lines_of (drop (start_of s) s)) ≡ All ds
      by_head (Some g) e h =
          let q = head_of_lem s g.metal g.start e in
          rw (← q.place) (all_of g.metal metal (days_from long 1 (lines_of (drop g.start s))) ds (sym (q.days long) ∙ h)).0
      by_head None e h = absurd (let q = sym (head_other s e long) ∙ h in let z : ◌≡◌ {A = ℕ} 0 1 = cc in omega arith)

-- the days of a metal, by how many they are or where they stop
pub judged_taken : (metal : Metal) (r : Days) →
    MatchResult (count_of r) (λ n. (ds : List Day) × (of_metal metal r ≡ Accepted metal ds) × (n ≡ length ds)) (λ f. of_metal metal r ≡ Refused (number_of f.rule) f.place)
judged_taken metal (All ds) = (ds, refl, refl)
judged_taken metal (Stop rule place) = refl

-- the days that an accepted list has
pub taken_left : (long : Bool) (total : ℕ) (s : Bor (List ℕ)) (list : DayList) → IsTaken long s (verdict_of long total s.now) list →
    (ds : List Day) × (days_left list.days ≡ map Ok ds) × (length ds ≡ list.count) × (verdict_of long total s.now ≡ Accepted list.metal ds)
taken_left long total s list (ds, v, count, listed, start) =
    (ds, rw listed (all_left long s.now (start_of s.now) ds (accepted_days long total s.now list.metal ds v)), sym count, v)
