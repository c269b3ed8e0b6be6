-- Bytes that are cut into whole fields stand for these fields, and such fields put together are cut into the same again.
-- Assumes nothing.
use Rattle.std.specs.Prelude.{ℕ, zero, suc, ◌+◌, ◌*◌, ◌≤◌, ◌≡◌, refl, List, [], ◌∷◌, ◌++◌, map, Bool, true, false, cond, eqb, length}
use Rattle.std.proofs.Common.{ap, arith, eqb-true, length-append, take_at, drop_at}
use Rattle.rules.specs.Division.{sum_of}
use Rattle.rules.specs.Report.{joined}
use Rattle.rules.specs.Fields.{Field, Whole, Cut}
use Rattle.consequences.specs.Rearranged.{cut_in}
use Rattle.consequences.specs.Framed.{Framed, framed_append, field_in, field_stands, cut_none}
use Rattle.consequences.specs.Described.{Inner}

abbrev pub AllWhole : List Field → Type 0
AllWhole [] = Unit
AllWhole (Cut ∷ fs) = ⊥
AllWhole (Whole t v ∷ fs) = AllWhole fs

pub inner_whole : (fs : List Field) → Inner fs → AllWhole fs
inner_whole [] h = tt
inner_whole (Cut ∷ fs) h = absurd h
inner_whole (Whole t v ∷ fs) h = inner_whole fs h.2

pub framed_cuts : (ks : List (List ℕ)) → AllWhole (map field_in ks) → Framed (joined (λ k. k) ks) (map field_in ks)
framed_cuts [] h rest = refl
framed_cuts (k ∷ ks) h rest = go (field_in k) refl h (λ w. framed_cuts ks w) rest
  where
    go : (f : Field) → field_in k ≡ f → AllWhole (f ∷ map field_in ks) → (AllWhole (map field_in ks) → Framed (joined (λ l. l) ks) (map field_in ks)) →
        Framed (k ++ joined (λ l. l) ks) (f ∷ map field_in ks)
    go Cut e h ih = absurd h
    go (Whole t v) e h ih = framed_append k (joined (λ l. l) ks) (Whole t v ∷ []) (map field_in ks) (field_stands k t v e).framed (ih h)

-- how many of some bytes are no whole field
abbrev cut_off : Field → ℕ
cut_off Cut = 1
cut_off (Whole t v) = 0

abbrev pub broken : List ℕ → ℕ
broken k = cut_off (field_in k)

pub none_broken : (ks : List (List ℕ)) → AllWhole (map field_in ks) → sum_of broken ks ≡ 0
none_broken [] h = refl
none_broken (k ∷ ks) h = go (field_in k) h (none_broken ks)
  where
    go : (f : Field) → AllWhole (f ∷ map field_in ks) → (AllWhole (map field_in ks) → sum_of broken ks ≡ 0) → cut_off f + sum_of broken ks ≡ 0
    go Cut h ih = absurd h
    go (Whole t v) h ih = omega (arith, ih h)

pub cut_again : (n : ℕ) (ks : List (List ℕ)) → sum_of broken ks ≡ 0 → length (joined (λ k. k) ks) ≤ n → cut_in n (joined (λ k. k) ks) ≡ ks
cut_again n [] h l = cut_none n
cut_again n ([] ∷ ks) h l = absurd (omega arith)
cut_again n ((t ∷ []) ∷ ks) h l = absurd (omega arith)
cut_again n ((t ∷ a ∷ []) ∷ ks) h l = absurd (omega arith)
cut_again zero ((t ∷ a ∷ b ∷ v) ∷ ks) h l = absurd (omega arith)
cut_again (suc n) ((t ∷ a ∷ b ∷ v) ∷ ks) h l =
    go (eqb (length v) (a * 256 + b)) refl h (λ e. cut_again n ks e (omega (arith, length-append v (joined (λ k. k) ks))))
  where
    go : (q : Bool) → eqb (length v) (a * 256 + b) ≡ q → cut_off (cond q (Whole t v) Cut) + sum_of broken ks ≡ 0 → (sum_of broken ks ≡ 0 → cut_in n (joined (λ k. k) ks) ≡ ks) →
        cut_in (suc n) (t ∷ a ∷ b ∷ v ++ joined (λ k. k) ks) ≡ (t ∷ a ∷ b ∷ v) ∷ ks
    go false q h ih = absurd (omega arith)
    go true q h ih =
        let rest = joined (λ k. k) ks in
        let size : length v ≡ a * 256 + b = eqb-true (length v) (a * 256 + b) q in
        rw (take_at v rest (a * 256 + b) size, drop_at v rest (a * 256 + b) size)
        (ap (λ (ls : List (List ℕ)). (t ∷ a ∷ b ∷ v) ∷ ls) (ih (omega arith)))
