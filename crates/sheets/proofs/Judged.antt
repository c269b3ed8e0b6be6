-- The book that a sheet makes, as it stands in the buffer, is judged; and what is answered is the answer.
-- Assumes nothing.
use Prim.Native.Nat.{ℕ, ◌≤◌}
use mathlib.Core.Path.{◌≡◌, refl, sym, ap, ◌∙◌}
use mathlib.Core.Bool.{Bool, true, false, cond}
use mathlib.Core.List.{List}
use native.Mathlib.Omega.{arith}
use borrow.Author.Tests.{ltb-false}
use lib.Dec.{ltb}
use lib.ListN.{length, take, drop}
use lib.Seq.{take_at}
use Rattle.std.specs.Prelude.{Ok, Err}
use Rattle.rules.specs.Book.{Verdict, judge}
use Rattle.rules.specs.Book.{Refused as BookRefused}
use Rattle.rules.specs.Book.{Accepted as BookAccepted}
use Rattle.rules.specs.Answer.{refused as refused01}
use Rattle.writing.specs.Written.{Wrote, written, written_front, written_length}
use Rattle.sheets.specs.declared.refusal.Refusal.{Refusal}
use Rattle.sheets.specs.Refusal as refusal
use Rattle.sheets.specs.Refusal.{number_of}
use Rattle.sheets.specs.Read.{Read, Bad, read}
use Rattle.sheets.specs.Read.{Made as Whole}
use Rattle.sheets.specs.Answers.{left, left_book, of_read, to_book}
use Rattle.sheets.specs.Sizes.{Tells}
use Rattle.sheets.specs.Making.{Makes, made_in, left_in}
use Rattle.sheets.specs.Shown.{IsAccepted}

differ : {A : Type 0} → ◌≡◌ {A = ℕ} 0 1 → A
differ e = absurd (omega arith)

module _ (entry exit : List ℕ) where
  -- nothing was made
  pub record Nothing (sheet : List ℕ) (n place : ℕ) : Type 0 where
    pub answers : to_book sheet (length entry) ≡ refused01 n place
    pub kept : exit ≡ entry

  pub nothing : (sheet : List ℕ) (e : Refusal) → Makes (read sheet) entry exit (Err e) → Nothing sheet (number_of e.rule) e.place
  unfolding to_book
  nothing sheet e x = let (a, b) = go (read sheet) x.answer x.buffer in record { answers = a; kept = b }
    where
      full : (book : List ℕ) (t : Bool) → cond t (Bad refusal.no_result 0) (Whole book) ≡ Bad (number_of e.rule) e.place → exit ≡ cond t entry (written 0 book entry) →
          (cond t (refused01 refusal.no_result 0) (left_book book (judge book)) ≡ refused01 (number_of e.rule) e.place) × (exit ≡ entry)
      full book true h f =
          let a : refusal.no_result ≡ number_of e.rule = cc in
          let b : 0 ≡ e.place = cc in
          (ap (λ (m : ℕ). refused01 m 0) a ∙ ap (refused01 (number_of e.rule)) b, f)
      full book false h f = differ cc

      go : (r : Read) → made_in (length entry) r ≡ Bad (number_of e.rule) e.place → exit ≡ left_in entry r →
          (of_read (length entry) r ≡ refused01 (number_of e.rule) e.place) × (exit ≡ entry)
      go (Bad m q) h f =
          let a : m ≡ number_of e.rule = cc in
          let b : q ≡ e.place = cc in
          (ap (λ (i : ℕ). refused01 i q) a ∙ ap (refused01 (number_of e.rule)) b, f)
      go (Whole book) h f = full book (ltb (length entry) (length book)) h f

  -- a book stands at the front
  pub record Stands (sheet : List ℕ) (size : ℕ) : Type 0 where
    pub book : List ℕ
    pub front : take size exit ≡ book
    pub inside : size ≤ length exit
    pub wrote : Wrote 0 book entry exit size
    pub answers : to_book sheet (length entry) ≡ left_book book (judge book)

  pub stands : (sheet : List ℕ) (size : ℕ) → Makes (read sheet) entry exit (Ok size) → Stands sheet size
  unfolding to_book
  stands sheet size x = go (read sheet) refl x.answer x.buffer
    where
      fits : (b : List ℕ) (t : Bool) → read sheet ≡ Whole b → ltb (length entry) (length b) ≡ t →
          Tells (cond t (Bad refusal.no_result 0) (Whole b)) (Ok size) → exit ≡ cond t entry (written 0 b entry) → Stands sheet size
      fits b true q u e f = differ (let k = e.0 in cc)
      fits b false q u e f =
          let same : length b ≡ size = sym e.1 in
          let low = ltb-false (length entry) (length b) u in
          record {
            book = b;
            front = ap (take size) (f ∙ written_front b entry) ∙ take_at b (drop (length b) entry) size same;
            inside = omega (arith, ap length f, written_length 0 b entry (omega arith));
            wrote = record { whole = f; next = omega arith };
            answers = ap (of_read (length entry)) q ∙ ap (λ (c : Bool). cond c (refused01 refusal.no_result 0) (left_book b (judge b))) u;
          }

      go : (r : Read) → read sheet ≡ r → Tells (made_in (length entry) r) (Ok size) → exit ≡ left_in entry r → Stands sheet size
      go (Bad n place) q e f = differ (let k = e.0 in cc)
      go (Whole b) q e f = fits b (ltb (length entry) (length b)) q refl e f

-- the answer for a book that was judged
pub judged_good : (book : List ℕ) → IsAccepted (judge book) → left_book book (judge book) ≡ left book 0 0
judged_good book h = go (judge book) h
  where
    go : (v : Verdict) → IsAccepted v → left_book book v ≡ left book 0 0
    go (BookRefused n place) k = absurd k
    go (BookAccepted terms cs) k = refl

pub judged_bad : (book : List ℕ) (n place : ℕ) → judge book ≡ BookRefused n place → left_book book (judge book) ≡ left book n place
judged_bad book n place h = ap (left_book book) h
