-- docs/RULES.md, sections 6 and 7.
-- Document 01, "Refusal numbers": for each number and place, what the book is "exactly when" they are given. "Number 1 comes first. Then fields are
-- judged from the front, and the first that breaks a rule decides."
-- Assumes nothing.
use Rattle.std.specs.Prelude.{ℕ, ◌+◌, ◌≤◌, ◌<◌, cond, List, [], length, get_or, take, drop, eqb}
use Rattle.rules.specs.declared.Terms.{Terms}
use Rattle.rules.specs.Refusal as refusal
use Rattle.rules.specs.Limits.{longest_book}
use Rattle.rules.specs.Text.{is, bytes}
use Rattle.rules.specs.Figures.{number_after, fen, lots, number}
use Rattle.rules.specs.Stamp.{stamp, stamp_number}
use Rattle.rules.specs.Opening.{up_to_blank, after_blank}
use Rattle.rules.specs.Codes.{same}
use Rattle.rules.specs.Book.{Customer, Group, Nobody, Open, DueI, DueK, DueH, DueQ, DueSeat, DueTrade, begun, seat_at, joined_by, traded}
use Rattle.rules.specs.Book.{Due, AtTerm, InGroup, Term, DueD, DueX, DueS, DueL, DueU, DueV, no_terms, locked, with_decimals, settled, with_loss, with_edge1, with_edge2}
use Rattle.rules.specs.Book.{Stage, Reading, Ended}
use Rattle.laws.specs.Fields.{size_at}
use Rattle.promises.specs.Reasons.{customers_read, First, Sound}

-- What a sound field adds to what was read: one of the terms, a seat's I, K, H or Q, with which the customer has it, a trade, or at C and Z the
-- customer before it.

abbrev pub with_term : Term → Terms → List ℕ → Due
with_term DueD ts v = AtTerm DueX (locked ts (same v (bytes "D")))
with_term DueX ts v = AtTerm DueS (with_decimals ts (cond (same v (bytes "0")) 0 2))
with_term DueS ts v = AtTerm DueL (settled ts (number v))
with_term DueL ts v = AtTerm DueU (with_loss ts (number v))
with_term DueU ts v = AtTerm DueV (with_edge1 ts (number v))
with_term DueV ts v = InGroup (with_edge2 ts (number v)) [] Nobody

abbrev pub with_seat : List ℕ → Customer → Group
with_seat v c = Open (DueK (seat_at v 0 0 0)) c

abbrev pub with_trade : ℕ → List ℕ → Customer → Group
with_trade t v c =
    let rest = after_blank v in
    let made = after_blank rest in
    Open DueTrade (traded c (record {
      bought = is "B" t;
      price = fen (number (up_to_blank v));
      lots = lots (number (up_to_blank rest));
      stamp = stamp (stamp_number (number_after 0 (up_to_blank made)) (number_after 0 (after_blank made)));
    }))

abbrev pub with_part : Group → ℕ → List ℕ → Group
with_part Nobody t v = Nobody
with_part (Open DueI c) t v = with_seat v c
with_part (Open (DueK s) c) t v = Open (DueH (seat_at s.code (number v) 0 0)) c
with_part (Open (DueH s) c) t v = Open (DueQ (seat_at s.code s.position.long.0 (number v) 0)) c
with_part (Open (DueQ s) c) t v = Open DueSeat (joined_by c (seat_at s.code s.position.long.0 s.position.short.0 (number v)))
with_part (Open DueSeat c) t v = cond (is "I" t) (with_seat v c) (with_trade t v c)
with_part (Open DueTrade c) t v = with_trade t v c

abbrev pub leads : Due → ℕ → List ℕ → Stage
leads (AtTerm term ts) t v = Reading (with_term term ts v)
leads (InGroup terms cs g) t v =
    let all = customers_read (InGroup terms cs g) in
    cond (is "C" t) (Reading (InGroup terms all (Open DueI (begun v))))
    (cond (is "Z" t) (Ended terms all)
    (Reading (InGroup terms cs (with_part g t v))))

module _ (s : List ℕ) where
  -- the field that begins at a place: "a one-byte tag, a two-byte length (high byte first) and that many bytes of value"
  abbrev pub tag_at : ℕ → ℕ
  tag_at at = get_or s at 0

  abbrev pub value_at : ℕ → List ℕ
  value_at at = take (size_at s at) (drop (at + 3) s)

  abbrev pub end_at : ℕ → ℕ
  end_at at = at + 3 + size_at s at

  -- The book is not too long, the fields before a place are whole and sound, and they lead to a stage; the last C before it is at last_c.
  pub data Reached : Stage → ℕ → ℕ → Type 0 where
    front : length s ≤ longest_book → Reached (Reading (AtTerm DueD no_terms)) 0 0
    further :
        {due : Due} {last_c at : ℕ} →
        Reached (Reading due) last_c at → end_at at ≤ length s → Sound due (tag_at at) (value_at at) →
        Reached (leads due (tag_at at) (value_at at)) (cond (is "C" (tag_at at)) at last_c) (end_at at)

  pub data Given : ℕ → ℕ → Type 0 where
    -- "the book has more than 60,000 bytes", at 0
    too_long : longest_book < length s → Given refusal.too_long 0
    -- "fewer than 3 bytes are left where a field must begin, or its value runs past the end", where it begins
    cut_short : {due : Due} {last_c at : ℕ} → Reached (Reading due) last_c at → length s < end_at at → Given refusal.cut_short at
    -- "bytes follow Z", at the first byte after Z
    after_end : {terms : Terms} {cs : List Customer} {last_c at : ℕ} → Reached (Ended terms cs) last_c at → at < length s → Given refusal.misplaced at
    -- a rule of the field, at its tag; 9 at the customer's C tag, the last one
    broken :
        {due : Due} {last_c at n : ℕ} →
        Reached (Reading due) last_c at → end_at at ≤ length s → First due (tag_at at) (value_at at) n → Given n (cond (eqb n refusal.uncovered) last_c at)

  -- all its fields are sound, up to its very end, and the last is Z
  pub record SoundBook (terms : Terms) (cs : List Customer) : Type 0 where
    pub last_c : ℕ
    pub whole : Reached (Ended terms cs) last_c (length s)

  -- one or the other
  pub data Decided : Type 0 where
    refused : {n place : ℕ} → Given n place → Decided
    accepted : {terms : Terms} {cs : List Customer} → SoundBook terms cs → Decided
