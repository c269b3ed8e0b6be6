-- docs/RULES.md, sections 8 and 9. Document 01, "Unit gain and standing".
-- Assumes nothing.
use Rattle.std.specs.Prelude.{ℕ, ◌-◌, ◌*◌, min, List, [], ◌∷◌, Bool, true, false, cond, not, ◌&&◌, ltb, eqb, ℤ, pos, neg_ℤ, ◌+ℤ◌, ◌-ℤ◌, ◌*ℤ◌}
use Rattle.std.specs.Int.Signed.{le_z, lt_z}
use Rattle.rules.specs.declared.Fen.{Fen}
use Rattle.rules.specs.declared.Rate.{Rate}
use Rattle.rules.specs.declared.Terms.{Terms}
use Rattle.rules.specs.declared.Position.{Position}
use Rattle.rules.specs.declared.Trade.{Trade}
use Rattle.rules.specs.declared.Standing.{Standing}
use Rattle.rules.specs.declared.Standing.TheVariants.{Pending, Tier1, Tier2, Tier3, Neither}
use Rattle.rules.specs.Book.{Customer, position, net, net_long, on_side}

-- "(S - price) x lots for a long net position, (price - S) x lots for a short one"
abbrev pub gain_of : Bool → Fen → Fen → ℕ → ℤ
gain_of true s price n = (pos s.0 -ℤ pos price.0) *ℤ pos n
gain_of false s price n = (pos price.0 -ℤ pos s.0) *ℤ pos n

-- "only the needed part of the last one counts": the lots that count of a trade, where so many are still needed
abbrev pub counted : Bool → ℕ → Trade → ℕ
counted long needed t = cond (on_side long t) (min t.lots.0 needed) 0

-- "go back through opening trades on the net side, newest first, until the lots counted equal the net position"
unfoldable pub gain_from : Bool → Fen → ℕ → List Trade → ℤ
gain_from long s needed [] = pos 0
gain_from long s needed (t ∷ ts) =
    let n = counted long needed t in
    gain_of long s t.price n +ℤ gain_from long s (needed - n) ts

-- "The total gain is the signed sum"; the customer's trades are held newest first
unfoldable pub total_gain : Terms → Customer → ℤ
total_gain terms c = gain_from (net_long (position c)) terms.settlement (net (position c)) c.trades

-- "it is compared without division: total x 100,000 against rate x S x net"
abbrev pub reaches : Terms → Position → ℤ → Rate → Bool
reaches terms p total edge = le_z (pos (edge.0 * terms.settlement.0 * net p)) (total *ℤ pos 100_000)

-- "Counted pending is the smaller of Q and net."
abbrev pub counted_pending : Position → ℕ
counted_pending p = min p.unfilled.0 (net p)

-- "net on the locked side (long if locked down, short if up)"
abbrev pub on_locked_side : Terms → Position → Bool
on_locked_side terms p = cond terms.down (net_long p) (not (net_long p))

-- "P, pending: net on the locked side, -total x 100,000 at least L x S x net, and counted pending above 0."
abbrev pub locked_standing : Terms → Position → ℤ → Standing
locked_standing terms p total = cond (reaches terms p (neg_ℤ total) terms.loss && ltb 0 (counted_pending p)) Pending Neither

-- "1, 2, 3: net on the other side and total above 0. Tier 1: total x 100,000 at least U x S x net. Tier 2: not tier 1, but
-- at least V x S x net. Tier 3: the rest."
abbrev pub other_standing : Terms → Position → ℤ → Standing
other_standing terms p total =
    cond (lt_z (pos 0) total)
    (cond (reaches terms p total terms.edge1) Tier1 (cond (reaches terms p total terms.edge2) Tier2 Tier3))
    Neither

-- "Equal: net 0, unit gain 0", and "N: everyone else."
abbrev pub standing_at : Terms → Position → ℤ → Standing
standing_at terms p total =
    cond (eqb (net p) 0) Neither (cond (on_locked_side terms p) (locked_standing terms p total) (other_standing terms p total))

unfoldable pub standing : Terms → Customer → Standing
standing terms c = standing_at terms (position c) (total_gain terms c)
