-- What is told of an input, by its verdict.
-- Assumes nothing.
use Prim.Native.Nat.{ℕ, suc, ◌*◌, ◌-◌, ◌≤◌}
use mathlib.Core.Path.{◌≡◌, refl, sym, ap, ap₂, subst, ◌∙◌}
use mathlib.Core.List.{List, [], ◌∷◌, map}
use mathlib.Core.Bool.{Bool, true, false, not, ◌||◌, or-true}
use native.Mathlib.Omega.{arith}
use native.Mathlib.Nat.{zero-add}
use lib.ListN.{length, take, drop, replicate, length-append, length-take, length-drop, length-map}
use lib.Seq.{take_all, take-append_seam}
use lib.Dec.{ltb, eqb}
use mir.Syntax.{w64}
use mir.Val.{Fits}
use borrow.Author.Tests.{le-ltb, ltb-false}
use Rattle.rules.specs.Book.{Refused as Refused01}
use Rattle.rules.specs.Report.{listing_of}
use Rattle.rules.specs.Answer.{Answer as Answer01}
use Rattle.rules.specs.Text.{bytes}
use Rattle.rules.specs.Codes.{is_code}
use Rattle.rules.specs.Opening.{up_to_blank}
use Rattle.laws.specs.ByTest.{by_test, not_either}
use Rattle.laws.specs.Digits.{digits_length_7, digits_length_20}
use Rattle.laws.specs.CodeLength.{code_length_lem}
use Rattle.printing.specs.Printed.{refusal_length}
use Rattle.reasons.specs.Lines.{behind_lines, first_line, line_of}
use Rattle.reasons.specs.Reason.{no_tag, said}
use Rattle.reasons.specs.Sizes.{reason_short, said_length}
use Rattle.answers.specs.declared.Answer.{Answer}
use Rattle.answers.specs.Answered.{Answered}
use Rattle.cutback.specs.Limit.{tons, may_stay}
use Rattle.cutback.specs.Seats.{Seat, seats_of, cut_of, excess, cuts_of}
use Rattle.cutback.specs.Lines.{lines_of, codes_ahead}
use Rattle.cutback.specs.Judge.{Verdict, Refused, Cut, again, codes_bad, refuse, grams_bad, count_bad, lots_bad, judge, answer_of}
use Rattle.cutback.proofs.Codes.{good_at}
use Rattle.cutback.proofs.Lots.{all_small}
use Rattle.cutback.proofs.Judging.{Accepted, accepted}
use Rattle.writing.specs.Written.{Wrote, written_nothing}
use Rattle.allotment.specs.Listed.{Listed}
use Rattle.cutting.specs.Told.{grams_of, lots_of, seats, read, verdict, row, rows}
use Rattle.cutting.proofs.Rows.{row_length, behind_none, behind_more}

-- more lots than four are never looked at
pub fewer : (kind metal : List ℕ) (grams : ℕ) (codes : List (List ℕ)) (lots : List ℕ) → length codes ≡ length lots →
    judge kind metal grams codes (take 4 lots) ≡ judge kind metal grams codes lots
unfolding judge
fewer kind metal grams codes lots e = by_test (ltb 4 (length codes)) many (λ t. ap (judge kind metal grams codes) (take_all 4 lots (omega (arith, ltb-false 4 (length codes) t))))
  where
    many : ltb 4 (length codes) ≡ true → judge kind metal grams codes (take 4 lots) ≡ judge kind metal grams codes lots
    many t =
        let a : ltb (length codes) (length (take 4 lots)) ≡ false = le-ltb (length codes) (length (take 4 lots)) (omega (arith, length-take 4 lots)) in
        let b : ltb (length codes) (length lots) ≡ false = le-ltb (length codes) (length lots) (omega arith) in
        simp (a, b, t, or-true)

-- the parts of the input that the call is given
module _ (input kind metal line lines lots one two : List ℕ) (grams : ℕ) where
  pub read_so : kind ≡ first_line input → one ≡ behind_lines 1 input → metal ≡ first_line one → two ≡ behind_lines 1 one → line ≡ first_line two → lines ≡ behind_lines 1 two →
      grams ≡ grams_of line → lots ≡ take 4 (map lots_of (lines_of lines)) → judge kind metal grams (codes_ahead lines) lots ≡ read input
  unfolding read line_of
  read_so k a m b l s g n =
      rw (k, m, g, n, l, s, b, a, behind_more 1 2 input refl, behind_more 2 3 input refl, behind_none input)
      (fewer (first_line input) (first_line (behind_lines 1 input)) (grams_of (first_line (behind_lines 2 input))) (codes_ahead (seats input)) (map lots_of (lines_of (seats input)))
      (length-map (lines_of (seats input)) _ ∙ sym (length-map (lines_of (seats input)) lots_of)))

-- rows are short
rows_short : (f : Seat → ℕ) → ((s : Seat) → f s ≤ s.lots) → (codes : List (List ℕ)) (lots : List ℕ) → codes_bad codes ≡ false → lots_bad lots ≡ false →
    length (rows codes (map f (seats_of codes lots))) ≤ 21 * length codes
rows_short f le [] lots h k = omega arith
rows_short f le (c ∷ cs) [] h k = omega arith
rows_short f le (c ∷ cs) (n ∷ ns) h k =
    let s : Seat = record { code = c; lots = n } in
    let small : n ≤ 1_000_000 = all_small (n ∷ ns) k 0 (omega arith) in
    let most : f s ≤ 9_999_999 = omega (arith, le s) in
    omega (
      arith,
      length-append (row c (f s)) (rows cs (map f (seats_of cs ns))),
      row_length c (f s),
      code_length_lem c (good_at (c ∷ cs) h 0 (omega arith)),
      digits_length_7 (f s) most,
      rows_short f le cs ns (not_either (not (is_code c) || again c cs) (codes_bad cs) h).1 (not_either (ltb 1_000_000 n) (lots_bad ns) k).1,
    )

seats_size : (cs : List (List ℕ)) (ns : List ℕ) → length cs ≡ length ns → length (seats_of cs ns) ≡ length cs
seats_size [] [] h = refl
seats_size [] (n ∷ ns) h = refl
seats_size (c ∷ cs) [] h = absurd (omega arith)
seats_size (c ∷ cs) (n ∷ ns) h = ap suc (seats_size cs ns (omega arith))

accepted_short : (kind metal : List ℕ) (grams : ℕ) (codes : List (List ℕ)) (lots cuts : List ℕ) → Accepted kind metal grams codes lots cuts →
    (length (rows codes cuts) ≤ 84) × (length cuts ≤ 4) × (length cuts ≤ length codes)
unfolding cuts_of
accepted_short kind metal grams codes lots cuts a =
    let f : Seat → ℕ = cut_of (excess (may_stay kind metal grams) (seats_of codes lots)) (seats_of codes lots) in
    let n : length cuts ≡ length codes = ap length a.cut_so ∙ length-map (seats_of codes lots) f ∙ seats_size codes lots a.even in
    let r : length (rows codes cuts) ≤ 21 * length codes = subst (λ (x : List ℕ). length (rows codes x) ≤ 21 * length codes) (sym a.cut_so) (rows_short f (λ s. omega arith) codes lots a.clear.codes a.lots_good) in
    (omega (arith, a.few), omega (arith, a.few), omega arith)

pub listing_short : (input cuts : List ℕ) → read input ≡ Cut cuts → (length (rows (codes_ahead (seats input)) cuts) ≤ 84) × (length cuts ≤ 4) × (length cuts ≤ length (lines_of (seats input)))
unfolding read
listing_short input cuts e =
    let s = accepted_short (line_of 0 input) (line_of 1 input) (grams_of (line_of 2 input)) (codes_ahead (seats input)) (map lots_of (lines_of (seats input))) cuts
    (accepted (line_of 0 input) (line_of 1 input) (grams_of (line_of 2 input)) (codes_ahead (seats input)) (map lots_of (lines_of (seats input))) cuts e) in
    (s.0, s.1, omega (arith, s.2, length-map (lines_of (seats input)) up_to_blank))

-- no refusal has the number 0
judge_above : (kind metal : List ℕ) (grams : ℕ) (codes : List (List ℕ)) (lots : List ℕ) (n : ℕ) → judge kind metal grams codes lots ≡ Refused n → n ≡ 0 → ⊥
unfolding judge
judge_above kind metal grams codes lots n e z =
    let q : judge kind metal grams codes lots ≡ Refused 0 = e ∙ ap Refused z in
    go (eqb (tons kind metal) 0) (grams_bad grams) (codes_bad codes || ltb (length codes) (length lots)) (count_bad (length codes)) (lots_bad lots || ltb (length lots) (length codes)) q
  where
    none : (k : ℕ) → Refused (suc k) ≡ Refused 0 → ⊥
    none k h = let w : suc k ≡ 0 = cc in omega arith

    go : (a b c d f : Bool) → refuse 40 a (refuse 41 b (refuse 42 c (refuse 43 d (refuse 44 f (Cut (cuts_of (may_stay kind metal grams) (seats_of codes lots))))))) ≡ Refused 0 → ⊥
    go true b c d f h = none 39 h
    go false true c d f h = none 40 h
    go false false true d f h = none 41 h
    go false false false true f h = none 42 h
    go false false false false true h = none 43 h
    go false false false false false h = let w : ◌≡◌ {A = ℕ} 0 1 = cc in omega arith

refused_above : (input : List ℕ) (n : ℕ) → verdict input ≡ Refused n → n ≡ 0 → ⊥
unfolding verdict read
refused_above input n e z =
    by_test (ltb 60_000 (length input)) (λ t. let q : Refused 1 ≡ Refused n = sym (rw t) ∙ e in let w : ◌≡◌ {A = ℕ} 1 n = cc in omega arith)
    (λ t. judge_above (line_of 0 input) (line_of 1 input) (grams_of (line_of 2 input)) (codes_ahead (seats input)) (map lots_of (lines_of (seats input))) n (sym (rw t) ∙ e) z)

-- what an answer with four places tells
pub record Rowed (input cuts : List ℕ) (length01 : ℕ) : Type 0 where
  pub told : List ℕ
  pub is : verdict input ≡ Cut told
  pub shown : take length01 cuts ≡ told
  pub size : length01 ≡ length told
  pub few : length01 ≤ 4
  pub lines : length told ≤ length (lines_of (seats input))
  pub room : length (rows (codes_ahead (seats input)) told) ≤ 84

verdict_read : (input cuts : List ℕ) → verdict input ≡ Cut cuts → read input ≡ Cut cuts
unfolding verdict
verdict_read input cuts e = by_test (ltb 60_000 (length input)) (λ t. absurd (let z : ◌≡◌ {A = ℕ} 0 1 = let q : Refused 1 ≡ Cut cuts = sym (rw t) ∙ e in cc in omega arith)) (λ t. sym (rw t) ∙ e)

module _ (input cuts : List ℕ) (r : Answer) where
  cut_so : (told : List ℕ) → verdict input ≡ Cut told → Answered (answer_of 4 (Cut told)) r (replicate 4 0) cuts → (r.number ≡ 0) × Rowed input cuts r.length
  cut_so told e h =
      let s = listing_short input told (verdict_read input told e) in
      let f : ltb 4 (length told) ≡ false = le-ltb 4 (length told) s.1 in
      let g : answer_of 4 (Cut told) ≡ record { number = 0; place = 0; length = length told; report = told } = rw f in
      let k : Answered (record { number = 0; place = 0; length = length told; report = told }) r (replicate 4 0) cuts = subst (λ (a : Answer01). Answered a r (replicate 4 0) cuts) g h in (
        k.number,
        record {
          told = told;
          is = e;
          shown = ap₂ (λ (n : ℕ) (c : List ℕ). take n c) k.length k.buffer ∙ take-append_seam told (drop (length told) (replicate 4 0));
          size = k.length;
          few = omega (arith, k.length, s.1);
          lines = s.2;
          room = s.0;
        },
      )

  pub refused_so : Answered (answer_of 4 (verdict input)) r (replicate 4 0) cuts → (r.number ≡ 0 → ⊥) → verdict input ≡ Refused r.number
  refused_so h z = go (verdict input) refl h
    where
      go : (v : Verdict) → verdict input ≡ v → Answered (answer_of 4 v) r (replicate 4 0) cuts → verdict input ≡ Refused r.number
      go (Refused n) e a = e ∙ ap Refused (sym a.number)
      go (Cut told) e a = absurd (z (cut_so told e a).0)

  pub rowed_so : Answered (answer_of 4 (verdict input)) r (replicate 4 0) cuts → r.number ≡ 0 → Rowed input cuts r.length
  rowed_so h z = go (verdict input) refl h
    where
      go : (v : Verdict) → verdict input ≡ v → Answered (answer_of 4 v) r (replicate 4 0) cuts → Rowed input cuts r.length
      go (Refused n) e a = absurd (refused_above input n e (sym a.number ∙ z))
      go (Cut told) e a = (cut_so told e a).1

-- the line of a refusal
pub said_fits : (n : ℕ) → Fits w64 n → length (said (bytes "cutback") n 0 no_tag) ≤ 256
said_fits n h =
    omega (arith, said_length (bytes "cutback") n 0 no_tag, reason_short n 0 no_tag, digits_length_20 n (omega (arith, h)), digits_length_7 0 (omega arith))

pub refusal_fits : (n : ℕ) → Fits w64 n → length (listing_of (Refused01 n 0)) ≤ 128
refusal_fits n h = omega (arith, refusal_length n 0, digits_length_20 n (omega (arith, h)), digits_length_7 0 (omega arith))

-- what was written stands at the front
pub listed_so : {s t e x : List ℕ} {r : ℕ} → Wrote 0 s e x r → s ≡ t → length s ≤ length e → Listed t e x r
listed_so {s} {e = e} {x} {r} w same h =
    subst (λ (l : List ℕ). Listed l e x r) same (record { buffer = w.whole; size = w.next ∙ zero-add _; room = omega (arith, w.next) })

pub lines_so : (input : List ℕ) (n : ℕ) → drop n input ≡ seats input → take (length input - n) (drop n input) ≡ seats input
lines_so input n e = take_all (length input - n) (drop n input) (omega (arith, length-drop n input)) ∙ e

pub nothing_listed : (e : List ℕ) → Listed [] e e 0
nothing_listed e = record { buffer = sym (written_nothing 0 e); size = refl; room = omega arith }
