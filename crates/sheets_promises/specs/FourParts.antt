-- The lines of four parts that a sheet has for an accepted book: a seat's and a trade's, and that each is read as its fields. A trade's blanks become
-- semicolons and back.
-- Assumes nothing.
use Rattle.std.specs.Prelude.{ℕ, ◌≡◌, true, false, ◌||◌, eqb}
use Prim.Native.Char.{code}
use Rattle.std.proofs.Math.Path.{refl}
use Rattle.std.proofs.Common.{sym, ap, ap₂, ◌∙◌}
use mathlib.Core.List.{List, [], ◌∷◌, ◌++◌, append_assoc, append-nil}
use Rattle.rules.specs.Text.{bytes}
use Rattle.rules.specs.Report.{joined}
use Rattle.rules.specs.Fields.{Whole}
use Rattle.rules.specs.Book.{Next, refuse}
use Rattle.sheets.specs.Refusal as refusal
use Rattle.sheets.specs.Mark.{is_mark, other, in_sheet, respelled}
use Rattle.sheets.specs.Line.{parts_of, field_of, strays, trade_of, four_of, line_of}
use Rattle.sheets.specs.Write.{shown, field_in}
use Rattle.sheets_promises.specs.Bytes.{Each, each_also, each_append, Lacks, lacks_stands, respelled_not, respelled_append, Part, Clean, Bare}
use Rattle.sheets_promises.specs.Marks.{there_and_back, own_alone, in_parts}
use Rattle.sheets_promises.specs.Cuts.{part_last, part_first}
use Rattle.sheets_promises.specs.TradeValues.{Traded}
use Rattle.sheets_promises.specs.Written.{Line, semicolons, feeds, bare_part, bare_clean, same_sheet, same_book, no_stray}

pub four_joined : (a b c d : List ℕ) → a ++ b ++ c ++ d ≡ a ++ (b ++ (c ++ (d ++ [])))
four_joined a b c d = simp (append_assoc, append-nil)

-- four parts behind the letter
four_parts : (t : ℕ) (a b c d : List ℕ) → Part t → Each Part a → Each Part b → Each Part c → Each Part d →
    parts_of (t ∷ code ";" ∷ (a ++ code ";" ∷ (b ++ code ";" ∷ (c ++ code ";" ∷ d)))) ≡ (t ∷ []) ∷ a ∷ b ∷ c ∷ d ∷ []
four_parts t a b c d p ha hb hc hd =
    part_first (t ∷ []) (a ++ code ";" ∷ (b ++ code ";" ∷ (c ++ code ";" ∷ d))) (p.semicolon, tt)
    ∙ rw (
      part_first a (b ++ code ";" ∷ (c ++ code ";" ∷ d)) (semicolons a ha),
      part_first b (c ++ code ";" ∷ d) (semicolons b hb),
      part_first c d (semicolons c hc),
      part_last d (semicolons d hd),
    )

four_unbroken : (t : ℕ) (a b c d : List ℕ) → Part t → Each Part a → Each Part b → Each Part c → Each Part d →
    Lacks (code "\n") (t ∷ code ";" ∷ (a ++ code ";" ∷ (b ++ code ";" ∷ (c ++ code ";" ∷ d))))
four_unbroken t a b c d p ha hb hc hd =
    let P : ℕ → Type 0 = λ x. eqb x (code "\n") ≡ false in
    (p.feed, (refl, each_append P a _ (feeds a ha) (refl, each_append P b _ (feeds b hb) (refl, each_append P c _ (feeds c hc) (refl, feeds d hd)))))

module _ (m : ℕ) (mark : is_mark m ≡ true) where
  pub seat_shown : (i k h q : List ℕ) → joined (field_in m) (Whole (code "I") i ∷ Whole (code "K") k ∷ Whole (code "H") h ∷ Whole (code "Q") q ∷ [])
      ≡ (code "I" ∷ code ";" ∷ (i ++ code ";" ∷ (k ++ code ";" ∷ (h ++ code ";" ∷ q)))) ++ bytes "\n"
  unfolding field_in
  seat_shown i k h q = simp (append_assoc, append-nil)

  pub seat_line : (i k h q : List ℕ) → Each Bare i → Each Bare k → Each Bare h → Each Bare q → Line m (Whole (code "I") i ∷ Whole (code "K") k ∷ Whole (code "H") h ∷ Whole (code "Q") q ∷ [])
  unfolding line_of
  seat_line i k h q hi hk hh hq =
      let letter : Part (code "I") = record { semicolon = refl; feed = refl; blank = refl } in
      record {
        text = code "I" ∷ code ";" ∷ (i ++ code ";" ∷ (k ++ code ";" ∷ (h ++ code ";" ∷ q)));
        shows = seat_shown i k h q;
        unbroken = four_unbroken (code "I") i k h q letter (bare_part i hi) (bare_part k hk) (bare_part h hh) (bare_part q hq);
        reads = rw (four_parts (code "I") i k h q letter (bare_part i hi) (bare_part k hk) (bare_part h hh) (bare_part q hq), no_stray m mark k hk, no_stray m mark h hh, no_stray m mark q hq, same_book m mark k hk, same_book m mark h hh, same_book m mark q hq) (ap Next (four_joined (field_of (code "I") i) (field_of (code "K") k) (field_of (code "H") h) (field_of (code "Q") q)));
      }

  -- a trade's blanks become semicolons, and the point of its price the mark
  abbrev pub turned : List ℕ → List ℕ
  turned v = respelled (code " ") (code ";") (in_sheet m v)

  turned_first : (p rest : List ℕ) → Each Clean p → turned (p ++ code " " ∷ rest) ≡ in_sheet m p ++ code ";" ∷ turned rest
  turned_first p rest h =
      ap (respelled (code " ") (code ";")) (respelled_append (code ".") m p (code " " ∷ rest))
      ∙ respelled_append (code " ") (code ";") (in_sheet m p) (code " " ∷ in_sheet m rest)
      ∙ rw (respelled_not (code " ") (code ";") (in_sheet m p) (each_also (λ b x. x.blank) (in_sheet m p) (in_parts m mark p h)))

  turned_last : (p : List ℕ) → Each Bare p → turned p ≡ p
  turned_last p h =
      ap (respelled (code " ") (code ";")) (same_sheet m mark p h)
      ∙ respelled_not (code " ") (code ";") p (each_also (λ b x. x.clean.part.blank) p h)

  pub turned_trade : (v : List ℕ) (x : Traded v) → turned v ≡ in_sheet m x.price ++ code ";" ∷ (x.lots ++ code ";" ∷ (x.day ++ code ";" ∷ x.time))
  turned_trade v x =
      let last = turned_first x.day x.time (bare_clean x.day x.day_bare) ∙ ap₂ between (same_sheet m mark x.day x.day_bare) (turned_last x.time x.time_bare) in
      let behind = turned_first x.lots (x.day ++ code " " ∷ x.time) (bare_clean x.lots x.lots_bare) ∙ ap₂ between (same_sheet m mark x.lots x.lots_bare) last in
      ap turned x.value ∙ turned_first x.price (x.lots ++ code " " ∷ (x.day ++ code " " ∷ x.time)) x.price_clean ∙ ap (between (in_sheet m x.price)) behind
    where
      between : List ℕ → List ℕ → List ℕ
      between a b = a ++ code ";" ∷ b

  trade_back : (v : List ℕ) (x : Traded v) → trade_of m (in_sheet m x.price) x.lots x.day x.time ≡ v
  trade_back v x = rw (there_and_back m mark x.price x.price_clean, same_book m mark x.lots x.lots_bare) (simp append_assoc (sym x.value))

  pub trade_line : (t : ℕ) (v : List ℕ) → Part t → Traded v → shown m t v ≡ t ∷ code ";" ∷ turned v ++ bytes "\n" →
      ((a b c d : List ℕ) → four_of m t a b c d ≡ refuse refusal.other_mark (strays m a || strays m b) (Next (field_of t (trade_of m a b c d)))) → Line m (Whole t v ∷ [])
  unfolding line_of field_in
  trade_line t v p x s r =
      let a = in_sheet m x.price in
      let ha = in_parts m mark x.price x.price_clean in
      let hb = bare_part x.lots x.lots_bare in
      let hc = bare_part x.day x.day_bare in
      let hd = bare_part x.time x.time_bare in
      record {
        text = t ∷ code ";" ∷ (a ++ code ";" ∷ (x.lots ++ code ";" ∷ (x.day ++ code ";" ∷ x.time)));
        shows = append-nil (shown m t v) ∙ s ∙ rw (turned_trade v x);
        unbroken = four_unbroken t a x.lots x.day x.time p ha hb hc hd;
        reads =
            rw (four_parts t a x.lots x.day x.time p ha hb hc hd, append-nil (field_of t v))
            (r a x.lots x.day x.time ∙ rw (lacks_stands (other m) a (own_alone m mark x.price x.price_clean), no_stray m mark x.lots x.lots_bare, trade_back v x));
      }
