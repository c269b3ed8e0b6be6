-- Request [10]: "Hold standings, offered lots, pending lots and offsets each in its own run; show that both layouts hold the same customers".
-- In rows a customer is a line. In columns each of its values stands in a run of its own, at the customer's place; its code and its seats too.
-- Assumes nothing.
use Rattle.std.specs.Prelude.{ℕ, ◌≡◌, refl, List, [], map, length, get_or}
use Rattle.std.proofs.Common.{sym, ap, ◌∙◌}
use Rattle.std.proofs.lemmas.Simd.{map-map}
use Rattle.std.proofs.lemmas.List.{length-map}
use Rattle.std.proofs.Math.ListN.{get_or-map}
use Rattle.rules.specs.declared.Standing.{Standing}
use Rattle.rules.specs.declared.Standing.TheVariants.{Neither}
use Rattle.rules.specs.Book.{Seat}
use Rattle.rules.specs.Cascade.{Line, code_of, pending_of}
use Rattle.laws.specs.Sums.{up_to, map_up_to}
use Rattle.laws.specs.Indices.{map_below}
use Rattle.cascade.specs.State.{offset_of}

abbrev pub standing_of : Line → Standing
standing_of l = l.standing

abbrev pub offered_of : Line → ℕ
offered_of l = l.offered

abbrev pub seats_of : Line → List Seat
seats_of l = l.seats

pub record Columns : Type 0 where
  pub codes : List (List ℕ)
  pub seats : List (List Seat)
  pub standings : List Standing
  pub offered : List ℕ
  pub pending : List ℕ
  pub offsets : List ℕ

abbrev pub to_columns : List Line → Columns
to_columns ls =
    record { codes = map code_of ls; seats = map seats_of ls; standings = map standing_of ls; offered = map offered_of ls; pending = map pending_of ls; offsets = map offset_of ls }

-- what stands in the runs at one place
abbrev pub row_at : Columns → ℕ → Line
row_at c i =
    record {
      code = get_or c.codes i [];
      seats = get_or c.seats i [];
      standing = get_or c.standings i Neither;
      offered = get_or c.offered i 0;
      pending = get_or c.pending i 0;
      offset = get_or c.offsets i 0;
    }

abbrev pub to_rows : Columns → List Line
to_rows c = map (row_at c) (up_to (length c.codes))

-- the runs have as many places as one another
pub record Even (c : Columns) : Type 0 where
  pub seats : length c.seats ≡ length c.codes
  pub standings : length c.standings ≡ length c.codes
  pub offered : length c.offered ≡ length c.codes
  pub pending : length c.pending ≡ length c.codes
  pub offsets : length c.offsets ≡ length c.codes

abbrev pub no_line : Line
no_line = record { code = []; seats = []; standing = Neither; offered = 0; pending = 0; offset = 0 }

pub rows_even : (ls : List Line) → Even (to_columns ls)
rows_even ls =
    record { seats = same seats_of; standings = same standing_of; offered = same offered_of; pending = same pending_of; offsets = same offset_of }
  where
    same : {A : Type 0} (f : Line → A) → length (map f ls) ≡ length (map code_of ls)
    same f = length-map ls f ∙ sym (length-map ls code_of)

-- rows into columns and back
row_back : (ls : List Line) (i : ℕ) → row_at (to_columns ls) i ≡ get_or ls i no_line
row_back ls i = λ j. record {
  code = get_or-map code_of ls i no_line j;
  seats = get_or-map seats_of ls i no_line j;
  standing = get_or-map standing_of ls i no_line j;
  offered = get_or-map offered_of ls i no_line j;
  pending = get_or-map pending_of ls i no_line j;
  offset = get_or-map offset_of ls i no_line j;
}

pub rows_back : (ls : List Line) → to_rows (to_columns ls) ≡ ls
rows_back ls =
    map_below (row_at (to_columns ls)) (λ i. get_or ls i no_line) (length (map code_of ls)) (λ i h. row_back ls i)
    ∙ ap (λ (n : ℕ). map (λ i. get_or ls i no_line) (up_to n)) (length-map ls code_of)
    ∙ map_up_to no_line ls

-- columns into rows and back: one run, of as many places as the codes
run_back : {A : Type 0} (f : Line → A) (c : Columns) (run : List A) (none : A) → ((i : ℕ) → f (row_at c i) ≡ get_or run i none) → length run ≡ length c.codes →
    map f (to_rows c) ≡ run
run_back f c run none same n =
    map-map f (row_at c) (up_to (length c.codes))
    ∙ map_below (λ i. f (row_at c i)) (λ i. get_or run i none) (length c.codes) (λ i h. same i)
    ∙ ap (λ (m : ℕ). map (λ i. get_or run i none) (up_to m)) (sym n)
    ∙ map_up_to none run

pub columns_back : (c : Columns) → Even c → to_columns (to_rows c) ≡ c
columns_back c e = λ j. record {
  codes = run_back code_of c c.codes [] (λ i. refl) refl j;
  seats = run_back seats_of c c.seats [] (λ i. refl) e.seats j;
  standings = run_back standing_of c c.standings Neither (λ i. refl) e.standings j;
  offered = run_back offered_of c c.offered 0 (λ i. refl) e.offered j;
  pending = run_back pending_of c c.pending 0 (λ i. refl) e.pending j;
  offsets = run_back offset_of c c.offsets 0 (λ i. refl) e.offsets j;
}
