-- What a group with its position comes to, from the sums over its trades.
-- Assumes nothing.
use Prim.Native.Nat.{ℕ, ◌+◌, ◌*◌, ◌≤◌, ◌<◌}
use mathlib.Core.Path.{◌≡◌, refl, sym, ap, subst, ◌∙◌}
use mathlib.Core.List.{List, [], ◌∷◌}
use mathlib.Core.Bool.{Bool, true, false}
use native.Mathlib.Omega.{arith}
use lib.IntN.{ℤ, pos, nat_abs}
use lib.Dec.{ltb}
use borrow.Author.Tests.{lt-ltb, le-ltb}
use Rattle.rules.specs.declared.Terms.{Terms}
use Rattle.rules.specs.declared.Position.{Position}
use Rattle.rules.specs.Refusal as refusal
use Rattle.rules.specs.Fields.{Field}
use Rattle.rules.specs.Figures.{lots}
use Rattle.rules.specs.Book.{added, Customer, position, net, net_long, opened, uncovered, DueTrade, Open}
use Rattle.rules.specs.Standing.{gain_from, total_gain, standing_at, standing}
use Rattle.laws.specs.Gains.{newest_size}
use Rattle.laws.specs.Groups.{Bad, group_from}
use Rattle.order.specs.Order.{arranged}
use Rattle.order.specs.Trades.{when, opened_arranged}
use Rattle.trades.specs.declared.TradesAt.{TradesAt}
use Rattle.trades.specs.declared.TradesAt.TheVariants.{Closed, Refused}
use Rattle.fields.specs.declared.Refusal.{Refusal}
use Rattle.fields.specs.Reading.{refused_at}
use Rattle.trades.specs.Trades.{none_yet, trades_from}
use Rattle.group.specs.Group.{Holding, closed_at, group_at}
use Rattle.trades.specs.Walk.{newest_of}
use Rattle.group.specs.declared.GroupAt.TheVariants.{Refused as NoGroup}
use Rattle.trades.proofs.Adds.{adds_none}
use Rattle.trades.proofs.Runs.{Ends, Means, run_means}

-- somebody with this position
abbrev somebody : Position → Customer
somebody p = record { code = []; seats = record { code = []; position = p } ∷ []; trades = [] }

somebody_holds : (p : Position) → Holding p (somebody p)
somebody_holds p =
    let l : p.long.0 + 0 ≡ p.long.0 = omega arith in
    let h : p.short.0 + 0 ≡ p.short.0 = omega arith in
    let u : p.unfilled.0 + 0 ≡ p.unfilled.0 = omega arith in
    record { sums = λ i. record { long = lots (l i); short = lots (h i); unfilled = lots (u i) }; untraded = refl }

-- a customer with this position and no trade yet, whose C is at `place`, and the fields from `first` on
module _ (terms : Terms) (p : Position) (place first : ℕ) (fs : List Field) where
  abbrev pub summed : TradesAt
  summed = trades_from terms.decimals (net_long p) terms.settlement first 0 (pos 0) none_yet fs

  means : (c : Customer) → Holding p c → Means (net_long p) terms place c [] first fs summed
  means c h = run_means (net_long p) terms place c [] first 0 (pos 0) none_yet fs (adds_none (net_long p) terms.settlement c h.untraded)

  pub group_refused : (r : Refusal) → summed ≡ Refused r → (c : Customer) → Holding p c →
      NoGroup r ≡ group_at terms (group_from terms (Open DueTrade c) place first fs)
  group_refused r e c h =
      let m : group_from terms (Open DueTrade c) place first fs ≡ Bad r.number r.place =
      subst (Means (net_long p) terms place c [] first fs) e (means c h) in
      rw m

  -- the total gain of a customer with the trades of the fields
  abbrev pub total : ℤ
  total = newest_of (net_long p) terms.settlement (net p) fs

  module _ (at sum : ℕ) (gain : ℤ) (ordered : Bool) (e : summed ≡ Closed at sum gain ordered) where
    module _ (c : Customer) (h : Holding p c) where
      ended : Ends (net_long p) terms place c [] first fs at sum gain ordered
      ended = subst (Means (net_long p) terms place c [] first fs) e (means c h)

      -- it has the position that it had
      holds : position ended.customer ≡ p
      holds = ap added ended.seats ∙ h.sums

      -- what its customer opens is what was summed up
      opens : opened (net_long p) ended.customer.trades ≡ sum
      opens = let d = ended in ap (opened (net_long p)) d.held ∙ opened_arranged (net_long p) d.latest ∙ sym d.lots

      -- its customer holds the trades of the fields newest first
      gains : gain_from (net_long p) terms.settlement (net p) ended.customer.trades ≡ total
      gains = let d = ended in ap (gain_from (net_long p) terms.settlement (net p)) (d.held ∙ ap (arranged when) d.stand)

    -- 9
    pub group_uncovered : sum < net p → (c : Customer) → Holding p c → NoGroup (refused_at refusal.uncovered place) ≡ group_at terms (group_from terms (Open DueTrade c) place first fs)
    group_uncovered l c h =
        let d = ended c h in
        let u : uncovered d.customer ≡ true = ap (λ (q : Position). ltb (opened (net_long q) d.customer.trades) (net q)) (holds c h) ∙ lt-ltb (opened (net_long p) d.customer.trades) (net p) (omega (arith, opens c h)) in
        rw (d.reads, u)

    pub total_size : terms.settlement.0 ≤ 9999999 → nat_abs total ≤ 9999999 * net p
    total_size hs =
        let c = somebody p in
        let h = somebody_holds p in
        subst (λ (z : ℤ). nat_abs z ≤ 9999999 * net p) (gains c h) (newest_size (net_long p) terms.settlement hs (net p) (ended c h).priced)

    pub group_closed : net p ≤ sum → (c : Customer) → Holding p c → closed_at (standing_at terms p total) p at ≡ group_at terms (group_from terms (Open DueTrade c) place first fs)
    unfolding standing total_gain
    group_closed l c h =
        let d = ended c h in
        let u : uncovered d.customer ≡ false = ap (λ (q : Position). ltb (opened (net_long q) d.customer.trades) (net q)) (holds c h) ∙ le-ltb (opened (net_long p) d.customer.trades) (net p) (omega (arith, opens c h)) in
        rw (d.reads, u)
        (ap (λ (z : ℤ). closed_at (standing_at terms p z) p at) (sym (gains c h))
        ∙ ap (λ (q : Position). closed_at (standing_at terms q (gain_from (net_long q) terms.settlement (net q) d.customer.trades)) q at) (sym (holds c h)))
