-- "An accepted book to sheet to book gives the same bytes": its fields go into lines one by one, a seat's four together, each line is read as those
-- fields, and the fields are the book's bytes. And the sheet is no longer than a sheet may be.
-- Assumes nothing.
use Rattle.std.specs.Prelude.{ℕ, zero, suc, ◌+◌, ◌*◌, ◌/◌, ◌%◌, ◌≤◌, ◌<◌, ◌≡◌, refl, List, [], ◌∷◌, ◌++◌, Bool, true, false, cond, ltb, take, drop}
use Rattle.std.proofs.Math.Path.{ap}
use Rattle.std.proofs.Common.{arith, ltb-false, length-append, length-take, length-drop, take-append-drop}
use Rattle.std.proofs.Math.ListN.{length}
use Rattle.rules.specs.declared.Terms.{Terms}
use Rattle.rules.specs.Limits.{longest_book}
use Rattle.rules.specs.Report.{joined}
use Rattle.rules.specs.Fields.{Field, Whole, Cut, fields_in, fields_of}
use Rattle.rules.specs.Book.{Customer, Accepted, judge}
use Rattle.consequences.specs.Runs.{accepted_runs}
use Rattle.sheets.specs.Mark.{is_mark}
use Rattle.sheets.specs.Write.{field_in, mark_line, sheet_of}
use Rattle.sheets_promises.specs.Bytes.{Each}
use Rattle.sheets_promises.specs.Order.{Fields, end, alone, seat, accepted_fields}
use Rattle.sheets_promises.specs.Saving.{saved, total, Spare, seated, few, accepted_spare}
use Rattle.sheets_promises.specs.Lined.{fields_length}
use Rattle.sheets_promises.specs.Written.{field_bytes, NoCut}

-- the fields of a book of bytes are its bytes
abbrev pub Bytes : List ℕ → Type 0
Bytes s = Each (λ b. b < 256) s

fields_whole : {fs : List Field} → Fields fs → NoCut fs
fields_whole end = tt
fields_whole (alone tag good x) = fields_whole x
fields_whole (seat bi bk bh bq x) = fields_whole x

each_drop : (P : ℕ → Type 0) (n : ℕ) (s : List ℕ) → Each P s → Each P (drop n s)
each_drop P zero s h = h
each_drop P (suc n) [] h = tt
each_drop P (suc n) (b ∷ s) h = each_drop P n s h.1

fields_are : (n : ℕ) (s : List ℕ) → length s ≤ n → Bytes s → NoCut (fields_in n s) → joined field_bytes (fields_in n s) ≡ s
fields_are zero [] h b w = refl
fields_are zero (x ∷ s) h b w = absurd (omega arith)
fields_are (suc n) [] h b w = refl
fields_are (suc n) (t ∷ []) h b w = absurd w
fields_are (suc n) (t ∷ a ∷ []) h b w = absurd w
fields_are (suc n) (t ∷ a ∷ c ∷ s) h b w = go (a * 256 + c) refl (ltb (length (take (a * 256 + c) s)) (a * 256 + c)) refl w (fields_are n (drop (a * 256 + c) s) (simp length-drop (omega arith)) (each_drop (λ x. x < 256) (a * 256 + c) s b.1.1.1))
  where
    go : (d : ℕ) → a * 256 + c ≡ d → (q : Bool) → ltb (length (take d s)) d ≡ q → NoCut (cond q (Cut ∷ []) (Whole t (take d s) ∷ fields_in n (drop d s))) →
        (NoCut (fields_in n (drop d s)) → joined field_bytes (fields_in n (drop d s)) ≡ drop d s) → joined field_bytes (cond q (Cut ∷ []) (Whole t (take d s) ∷ fields_in n (drop d s))) ≡ t ∷ a ∷ c ∷ s
    go d e true q w ih = absurd w
    go d e false q w ih =
        let size : length (take d s) ≡ d = omega (arith, ltb-false (length (take d s)) d q, length-take d s) in
        let low : c < 256 = b.1.1.0 in
        let high : length (take d s) / 256 ≡ a = omega arith in
        let rest : length (take d s) % 256 ≡ c = omega arith in
        rw (high, rest, ih w) (ap (λ (l : List ℕ). t ∷ a ∷ c ∷ l) (take-append-drop d s))

pub book_is : (s : List ℕ) → Bytes s → Fields (fields_of s) → joined field_bytes (fields_of s) ≡ s
unfolding fields_of
book_is s b x = fields_are (length s) s (omega arith) b (fields_whole x)

total_is : (fs : List Field) → total fs ≡ length (joined field_bytes fs)
total_is [] = refl
total_is (Cut ∷ fs) = total_is fs
total_is (Whole t v ∷ fs) = simp length-append (omega (arith, total_is fs))

module _ (m : ℕ) (k : is_mark m ≡ true) (s : List ℕ) (b : Bytes s) (terms : Terms) (cs : List Customer) (e : judge s ≡ Accepted terms cs) where
  -- "a sheet over 60,000 bytes" is no accepted book's
  pub sheet_short : length (sheet_of m s) ≤ longest_book
  unfolding sheet_of
  sheet_short = go (accepted_spare s terms cs e)
    where
      lengths : length (joined (field_in m) (fields_of s)) + saved (fields_of s) ≡ total (fields_of s)
      lengths = fields_length m k (accepted_fields s terms cs e)

      long : total (fields_of s) ≤ longest_book
      long = omega (arith, total_is (fields_of s), ap length (book_is s b (accepted_fields s terms cs e)), (accepted_runs terms cs s e).0)

      go : Spare 6 (fields_of s) → length (mark_line m ++ joined (field_in m) (fields_of s)) ≤ longest_book
      go (seated h) = omega (arith, lengths, long)
      go (few h) = omega (arith, lengths)
