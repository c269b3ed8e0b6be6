-- A run of bytes, filled day after day: what is asked of the list, and what the loop holds.
-- Assumes nothing.
use Rattle.std.specs.Prelude.{ℕ, suc, ◌+◌, ◌≤◌, ◌<◌, ◌≡◌, refl, List, [], ◌∷◌, ◌++◌, map, length, get_or, take, drop, set, Result, Ok}
use Rattle.std.proofs.Common.{sym, ap, ◌∙◌, append_assoc, append-nil, add-one, arith, length-append, drop-cons}
use Rattle.std.proofs.lemmas.List.{set_at}
use Rattle.days.specs.declared.Metal.{Metal}
use Rattle.days.specs.declared.Day.{Day}
use Rattle.days.specs.declared.refusal.ListRule.{ListRule}
use Rattle.days.specs.Places.{days_of}
use Rattle.watch.specs.declared.span.Close.{Close}
use Rattle.watch.specs.Watch.{spans_on, spans_from, spans}
use Rattle.watch.specs.Window.{window, close_of, most, Small, take_window, small_shift, small_none, byte_in, byte_window}

-- the bytes of the days that are read
abbrev pub spans_in : Metal → List (Result Day ListRule) → List ℕ
spans_in metal items = spans metal (days_of items)

-- what is read are so many days
pub record Countable (items : List (Result Day ListRule)) (count : ℕ) : Type 0 where
  pub days : List Day
  pub read : items ≡ map Ok days
  pub size : length days ≡ count

-- i days were passed: those before, newest first, those that are left, and the bytes put down
pub record Watched (metal : Metal) (entry whole : List ℕ) (left : List (Result Day ListRule)) (i : ℕ) (closes : List Close) (run : List ℕ) : Type 0 where
  pub recent : List Day
  pub put : List ℕ
  pub room : i + length left ≤ length entry
  pub seen : length recent ≡ i
  pub all : whole ≡ put ++ spans_from metal recent (days_of left)
  pub size : length put ≡ i
  pub kept : closes ≡ window 6 recent
  pub small : Small closes
  pub filled : run ≡ put ++ drop i entry

pub spans_length : (metal : Metal) (recent ds : List Day) → length (spans_from metal recent ds) ≡ length ds
spans_length metal recent [] = refl
spans_length metal recent (d ∷ ds) = ap suc (spans_length metal (d ∷ recent) ds)

pub put_more : (put entry : List ℕ) (i b : ℕ) → length put ≡ i → i < length entry → set (put ++ drop i entry) i b ≡ (put ++ (b ∷ [])) ++ drop (i + 1) entry
put_more put entry i b e h = rw (drop-cons entry i 0, set_at put (get_or entry i 0) (drop (suc i) entry) b i e, append_assoc, add-one)

pub none_left : {A : Type 0} (l : List A) → length l ≡ 0 → l ≡ []
none_left [] e = refl
none_left (d ∷ l) e = absurd (omega arith)

pub put_all : (put entry whole : List ℕ) → whole ≡ put ++ [] → put ++ drop (length put) entry ≡ whole ++ drop (length whole) entry
put_all put entry whole e = ap (λ (l : List ℕ). l ++ drop (length l) entry) (sym (e ∙ append-nil put))

module _ {metal : Metal} {entry whole : List ℕ} {left : List (Result Day ListRule)} {i : ℕ} {closes : List Close} {run : List ℕ} (w : Watched metal entry whole left i closes run) where
  pub watched_more : (d : Day) (rest : List (Result Day ListRule)) → left ≡ Ok d ∷ rest → d.price.0 ≤ most → d.interest.0 ≤ most →
      (shifted : List Close) → shifted ≡ close_of d ∷ take 5 closes → (b : ℕ) → b ≡ byte_in metal shifted (i + 1) →
      Watched metal entry whole rest (i + 1) shifted (set run i b)
  watched_more d rest more price interest shifted es b eb =
      let n : i + 1 ≡ suc (length w.recent) = omega (arith, w.seen) in
      let shift : shifted ≡ window 6 (d ∷ w.recent) =
      es ∙ ap (λ (l : List Close). close_of d ∷ l) (ap (take 5) w.kept ∙ take_window 5 6 w.recent (omega arith)) in
      let on : b ≡ spans_on metal (d ∷ w.recent) = eb ∙ rw (shift, n) (byte_window d w.recent metal) in
      record {
        recent = d ∷ w.recent;
        put = w.put ++ (b ∷ []);
        room = omega (arith, ap length more, w.room);
        seen = omega (arith, w.seen);
        all = rw (more, ← on) at w.all ∙ rw append_assoc;
        size = simp length-append (omega (arith, w.size));
        kept = shift;
        small = rw es (small_shift (close_of d) closes price interest w.small);
        filled = rw w.filled (put_more w.put entry i b w.size (omega (arith, ap length more, w.room)));
      }

  -- where no day is left, or what is left is none
  pub watched_all : days_of left ≡ [] → run ≡ whole ++ drop (length whole) entry
  watched_all none =
      let same : whole ≡ w.put ++ [] = w.all ∙ ap (λ (l : List Day). w.put ++ spans_from metal w.recent l) none in
      w.filled ∙ ap (λ (n : ℕ). w.put ++ drop n entry) (sym w.size) ∙ put_all w.put entry whole same

-- before the first day
pub watched_none : (metal : Metal) (entry : List ℕ) (items : List (Result Day ListRule)) → length items ≤ length entry → Watched metal entry (spans_in metal items) items 0 (window 6 []) entry
unfolding spans
watched_none metal entry items h =
    record {
      recent = [];
      put = [];
      room = omega arith;
      seen = refl;
      all = refl;
      size = refl;
      kept = refl;
      small = small_none;
      filled = refl;
    }
