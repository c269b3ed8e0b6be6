-- Each part ends at a semicolon, and the last at a line feed, or it is no line.
use Rattle.std.proofs.Common.{◌≡◌, None, refl, rules}
use Rattle.sheets.proofs.Fours.{no_third_at, no_fourth_at, no_feed_at, has_four}
use Rattle.sheets.proofs.line.four_at.Goals as goal

pub returns-in_err-second : goal.returns-in_err-second
returns-in_err-second c =
    let f : c.from_residual.result ≡ None = search rules in
    rw f (no_third_at _ _ _ c.requires _ refl c.in_err-second.ensures)

pub returns-in_err-third : goal.returns-in_err-third
returns-in_err-third c =
    let f : c.from_residual-in_err-third.result ≡ None = search rules in
    let b = c.in_ok-second.ensures in
    rw f (no_fourth_at _ _ _ c.requires _ b.0 b.1 _ refl c.in_err-third.ensures)

pub returns-in_err-end : goal.returns-in_err-end
returns-in_err-end c =
    let f : c.from_residual-in_err-end.result ≡ None = search rules in
    let b = c.in_ok-second.ensures in
    let d = c.in_ok-third.ensures in
    rw f (no_feed_at _ _ _ c.requires _ b.0 b.1 _ d.0 d.1 _ refl c.in_err-end.ensures)

pub returns : goal.returns
returns c =
    let b = c.in_ok-second.ensures in
    let d = c.in_ok-third.ensures in
    let e = c.in_ok-end.ensures in
    has_four _ _ _ c.requires _ b.0 b.1 _ d.0 d.1 _ e.0 e.1
