-- What the figures of an accepted book are made of: digits and perhaps a point, or digits alone, at most eight bytes. Read from the figure that the
-- book's table took.
-- Assumes nothing.
use Rattle.std.specs.Prelude.{ℕ, ◌+◌, ◌≤◌, ◌<◌, ◌≡◌, refl, List, [], ◌∷◌, Bool, true, false, cond, not, ◌&&◌, ◌||◌, leb, eqb, length, get_or}
use Prim.Native.Char.{Char, code}
use Rattle.std.proofs.Common.{sym, subst, ◌∙◌, arith, leb-true, eqb-true}
use Rattle.std.proofs.Math.Bool.{and-eq-true_iff}
use Rattle.rules.specs.declared.Written.TheVariants.{Number}
use Rattle.rules.specs.declared.Written.TheVariants.{Comma as CommaIn}
use Rattle.rules.specs.declared.Written.TheVariants.{Malformed as NoFigure}
use Rattle.rules.specs.Text.{is}
use Rattle.rules.specs.Figures.{is_digit, all_digits_of, has, plain, up_to, after, whole, behind_point, number, is_written, written_of}
use Rattle.laws.specs.ByTest.{by_test, not_either}
use Rattle.sheets_promises.specs.Bytes.{Each, each_also, Clean, Bare, digits_bare}

pub both : (a b : Bool) → (a && b) ≡ true → (a ≡ true) × (b ≡ true)
both a b h = (and-eq-true_iff a b).0 h

point_clean : Clean (code ".")
point_clean = record { part = record { semicolon = refl; feed = refl; blank = refl }; comma = refl }

-- a figure's bytes
pub record Figured (v : List ℕ) (d : ℕ) : Type 0 where
  pub clean : Each Clean v
  pub short : length v ≤ 8
  pub some : 0 < length v
  pub bare : d ≡ 0 → Each Bare v

clean_bytes : (v : List ℕ) → all_digits_of (up_to "." v) ≡ true → all_digits_of (after "." v) ≡ true → Each Clean v
clean_bytes [] h k = tt
clean_bytes (b ∷ v) h k =
    by_test (is "." b)
    (λ e. (subst Clean (sym (eqb-true b (code ".") e)) point_clean, each_also (λ c x. x.clean) v (digits_bare v (rw e at k))))
    (λ e.
    let d = both (is_digit b) (all_digits_of (up_to "." v)) (rw e at h) in
    ((digits_bare (b ∷ []) (rw d.0)).0.clean, clean_bytes v d.1 (rw e at k)))

bare_bytes : (v : List ℕ) → has "." v ≡ false → all_digits_of (up_to "." v) ≡ true → Each Bare v
bare_bytes [] n h = tt
bare_bytes (b ∷ v) n h =
    let (e, f) = not_either (is "." b) (has "." v) n in
    let d = both (is_digit b) (all_digits_of (up_to "." v)) (rw e at h) in
    ((digits_bare (b ∷ []) (rw d.0)).0, bare_bytes v f d.1)

pub parted_length : (c : Char) (v : List ℕ) → (length v ≤ length (up_to c v) + length (after c v) + 1) × (length (up_to c v) ≤ length v)
parted_length c [] = (omega arith, omega arith)
parted_length c (b ∷ v) = by_test (is c b) (λ e. rw e (omega arith)) (λ e. let k = parted_length c v in rw e (omega arith))

pub written_made : (v : List ℕ) (n d : ℕ) → written_of v ≡ Number n d → Figured v d
unfolding written_of
written_made v n d h = go (has "," v) (is_written v) refl h
  where
    no_point : (p : Bool) → has "." v ≡ p → (not (has "." v) || leb 1 (length (behind_point v))) ≡ true → length (behind_point v) ≡ 0 → has "." v ≡ false
    no_point false q h z = q
    no_point true q h z = absurd (omega (arith, leb-true 1 (length (behind_point v)) (rw q at h)))

    made : is_written v ≡ true → length (behind_point v) ≡ d → Figured v d
    made w e =
        let (w₄, few) = both (leb 1 (length (whole v)) && plain (whole v) && (not (has "." v) || leb 1 (length (behind_point v))) && all_digits_of (behind_point v)) (leb (length (whole v) + length (behind_point v)) 7) w in
        let (w₃, behind) = both (leb 1 (length (whole v)) && plain (whole v) && (not (has "." v) || leb 1 (length (behind_point v)))) (all_digits_of (behind_point v)) w₄ in
        let (w₂, point) = both (leb 1 (length (whole v)) && plain (whole v)) (not (has "." v) || leb 1 (length (behind_point v))) w₃ in
        let (least, is_plain) = both (leb 1 (length (whole v))) (plain (whole v)) w₂ in
        let digits = (both (all_digits_of (whole v)) (not (is "0" (get_or (whole v) 0 0)) || eqb (length (whole v)) 1) is_plain).0 in
        record {
          clean = clean_bytes v digits behind;
          short = omega (arith, leb-true (length (whole v) + length (behind_point v)) 7 few, parted_length "." v);
          some = omega (arith, leb-true 1 (length (whole v)) least, parted_length "." v);
          bare = λ z. bare_bytes v (no_point (has "." v) refl point (e ∙ z)) digits;
        }

    go : (c w : Bool) → is_written v ≡ w → cond c CommaIn (cond w (Number (number v) (length (behind_point v))) NoFigure) ≡ Number n d → Figured v d
    go true w e k = absurd (let z : ◌≡◌ {A = ℕ} 0 1 = cc in omega arith)
    go false false e k = absurd (let z : ◌≡◌ {A = ℕ} 0 1 = cc in omega arith)
    go false true e k = made e (cc)
