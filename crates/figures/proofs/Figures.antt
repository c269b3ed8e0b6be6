-- The figure at the start of bytes and definition `written_of`: where the bytes end after it, and where a blank follows it.
-- Assumes nothing.
use Rattle.std.proofs.Common.{◌≡◌, ℕ, ◌+◌, ◌<◌, ◌≤◌, Bool, true, false, cond, List, [], ◌∷◌, ◌++◌, length, get_or, drop, sym, refl, ap, ◌∙◌, append-nil, arith, lit<, length-append, drop_at}
use Prim.Native.Char.{code}
use mathlib.Core.Bool.{and-eq-true_iff}
use lib.Seq.{get_or-append_seam}
use Rattle.rules.specs.declared.Written.TheVariants.{Number, Comma, Malformed}
use Rattle.rules.specs.Figures.{all_digits_of, has, behind_point, number, is_written, written_of}
use Rattle.rules.specs.Opening.{up_to_blank, after_blank}
use Rattle.figures.specs.declared.start.Start.TheVariants.{Ends}
use Rattle.figures.specs.Numbers.{no_figure}
use Rattle.figures.specs.Starts.{start_of}
use Rattle.figures.proofs.Lists.{drop_step}
use Rattle.figures.proofs.Sizes.{below, at_most}
use Rattle.figures.proofs.Twos.{join}
use Rattle.figures.proofs.Shapes.{Decimals, none, some, shape_has_none, shape_written, written_shape}
use Rattle.figures.proofs.Starts.{end, blank, shape_start, start_read}
use Rattle.figures.proofs.Blanks.{blank_inside, up_to_part}

-- How large it is.

tail_size : {es t : List ℕ} → Decimals es t → (length t ≤ length es + 1) × (length es ≡ 0 → length t ≡ 0)
tail_size none = (omega arith, λ e. refl)
tail_size (some es k) = (omega arith, λ e. absurd (omega (arith, k, e)))

-- seven digits and a point; without decimals no point
pub written_size : (u : List ℕ) (n d : ℕ) → written_of u ≡ Number n d → (length u ≤ 8) × (d ≡ 0 → length u ≤ 7)
written_size u n d h =
    let s = written_shape u n d h in
    let t = tail_size s.tailed in
    let e = ap length s.all ∙ length-append s.digits s.tail in
    (omega (arith, e, t.0, s.most), λ z. omega (arith, e, t.1 (sym s.decimals ∙ z), s.most))

pub written_some : (u : List ℕ) (n d : ℕ) → written_of u ≡ Number n d → 1 ≤ length u
written_some u n d h =
    let s = written_shape u n d h in
    omega (arith, ap length s.all ∙ length-append s.digits s.tail, s.least)

-- seven digits write no number above the range of a price
pub written_most : (u : List ℕ) (n d : ℕ) → written_of u ≡ Number n d → n ≤ 9_999_999
written_most u n d h =
    let s = written_shape u n d h in
    let ds = s.digits ++ s.places in
    let size = length-append s.digits s.places in
    let digits = join s.digits s.places ((and-eq-true_iff (all_digits_of s.digits) _).0 s.plain).0 s.decimal in
    omega (arith, below 0 0 ds digits (omega arith), at_most 7 (0 + length ds) (omega (arith, size, s.most)), s.number)

-- All of the bytes.

none_left : (w : List ℕ) → length w ≡ 0 → w ≡ []
none_left [] h = refl
none_left (x ∷ w) h = absurd (omega arith)

pub start_all : (v : List ℕ) (n d e : ℕ) → start_of v ≡ Ends n d e → e ≡ length v → written_of v ≡ Number n d
start_all v n d e h k =
    let s = start_read v n d e h in
    let rest = none_left s.rest (omega (arith, ap length s.all ∙ length-append s.figure s.rest, s.size)) in
    ap written_of (s.all ∙ ap (λ (l : List ℕ). s.figure ++ l) rest ∙ append-nil s.figure) ∙ shape_written s.figure n d s.shape

pub written_start : (v : List ℕ) (n d : ℕ) → written_of v ≡ Number n d → start_of v ≡ Ends n d (length v)
written_start v n d h = ap start_of (sym (append-nil v)) ∙ shape_start v [] n d (written_shape v n d h) end

sifted :
    (comma good : Bool) (m k : ℕ) → ((n d : ℕ) → cond comma Comma (cond good (Number m k) Malformed) ≡ Number n d → ⊥) →
    cond comma Comma (cond good (Number m k) Malformed) ≡ cond comma Comma Malformed
sifted true good m k h = refl
sifted false true m k h = absurd (h m k refl)
sifted false false m k h = refl

pub not_written : (v : List ℕ) → ((n d : ℕ) → written_of v ≡ Number n d → ⊥) → written_of v ≡ no_figure v
unfolding written_of
not_written v h = sifted (has "," v) (is_written v) (number v) (length (behind_point v)) h

-- Up to the first blank.

pub at_blank : (v : List ℕ) → length (up_to_blank v) < length v → get_or v (length (up_to_blank v)) 0 ≡ code " "
at_blank v h =
    let u = up_to_blank v in
    ap (λ (l : List ℕ). get_or l (length u) 0) (blank_inside v h) ∙ get_or-append_seam u (code " ") (after_blank v) 0

pub front_start : (v : List ℕ) (n d : ℕ) → length (up_to_blank v) < length v → written_of (up_to_blank v) ≡ Number n d → start_of v ≡ Ends n d (length (up_to_blank v))
front_start v n d h k =
    ap start_of (blank_inside v h) ∙ shape_start (up_to_blank v) (code " " ∷ after_blank v) n d (written_shape (up_to_blank v) n d k) (blank (after_blank v))

pub front_read :
    (v : List ℕ) (n d e : ℕ) → start_of v ≡ Ends n d e → e < length v → get_or v e 0 ≡ code " " →
    (e ≡ length (up_to_blank v)) × (written_of (up_to_blank v) ≡ Number n d)
front_read v n d e h l g =
    let s = start_read v n d e h in
    let rest : s.rest ≡ code " " ∷ drop (e + 1) v =
    sym (drop_at s.figure s.rest e s.size) ∙ ap (drop e) (sym s.all) ∙ drop_step v e l ∙ ap (λ (x : ℕ). x ∷ drop (e + 1) v) g in
    let front : up_to_blank v ≡ s.figure =
    ap up_to_blank (s.all ∙ ap (λ (w : List ℕ). s.figure ++ w) rest) ∙ up_to_part s.figure _ (shape_has_none " " s.figure n d (lit< tt) s.shape) in
    (sym (ap length front ∙ s.size), ap written_of front ∙ shape_written s.figure n d s.shape)
