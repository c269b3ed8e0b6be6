-- `positions::read_position` meets its contract: the definition goes on as the code does, figure by figure.
-- Assumes nothing.
use mathlib.Core.Path.{sym, ◌∙◌}
use mathlib.Core.Bool.{true, false}
use Rattle.positions.proofs.Found.{position_found}
use Rattle.positions.specs.Position.{position_of}
use borrow.Author.Rules.{rules}
use Rattle.positions.proofs.read_position.Statement.{statement}
use Rattle.positions.proofs.read_position.Tie as tie

held-at-requires : tie.Need-held_at-k-requires
held-at-requires c κs = search rules

enum-known-k : tie.Need-enum_known-k
enum-known-k c = search rules

enum_told : tie.Need-enum_told-1
enum_told c = search rules

refusal-in-requires : tie.Need-refusal_in-requires
refusal-in-requires c κs = search rules

returns : tie.Need-returns-in_default
unfolding position_of
returns c =
    let t = c.in_default.is in
    simp (c.refusal_in.ensures, t, sym c.held_at-k.ensures ∙ t)

held-at-requires-2 : tie.Need-held_at-h-requires
held-at-requires-2 c κs = search rules

enum-known-h : tie.Need-enum_known-h
enum-known-h c = search rules

enum-told-2 : tie.Need-enum_told-in_default-h
enum-told-2 c = search rules

refusal-in-requires-2 : tie.Need-refusal_in-requires-in_default-h
refusal-in-requires-2 c κs = search rules

returns-2 : tie.Need-returns-in_default-h
unfolding position_of
returns-2 c =
    let xk = c in let ek = sym xk.held_at-k.ensures ∙ xk.in-Value.is in
    let t = c.in_default-h.is in
    simp (c.refusal_in-in_default-h.ensures, t, ek, sym c.held_at-h.ensures ∙ t)

held-at-requires-3 : tie.Need-held_at-q-requires
held-at-requires-3 c κs = search rules

enum-known-q : tie.Need-enum_known-q
enum-known-q c = search rules

enum-told-3 : tie.Need-enum_told-in_default-q
enum-told-3 c = search rules

refusal-in-requires-3 : tie.Need-refusal_in-requires-in_default-q
refusal-in-requires-3 c κs = search rules

returns-3 : tie.Need-returns-in_default-q
unfolding position_of
returns-3 c =
    let xh = c in let eh = sym xh.held_at-h.ensures ∙ xh.in-Value-h.is in
    let xk = xh in let ek = sym xk.held_at-k.ensures ∙ xk.in-Value.is in
    let t = c.in_default-q.is in
    simp (c.refusal_in-in_default-q.ensures, t, ek, eh, sym c.held_at-q.ensures ∙ t)

overdrawn-by-requires : tie.Need-overdrawn_by-requires
overdrawn-by-requires c κs = search rules

returns-4 : tie.Need-returns-then-overdrawn_by
unfolding position_of
returns-4 c =
    let xq = c in let eq = sym xq.held_at-q.ensures ∙ xq.in-Value-q.is in
    let xh = xq in let eh = sym xh.held_at-h.ensures ∙ xh.in-Value-h.is in
    let xk = xh in let ek = sym xk.held_at-k.ensures ∙ xk.in-Value.is in
    let a = xk.args in
    sym (position_found a.book.now a.terms a.at _ _ _ _ _ _ ek eh eq true (sym c.overdrawn_by.ensures ∙ c.if-overdrawn_by.true))

returns-5 : tie.Need-returns
unfolding position_of
returns-5 c =
    let xq = c in let eq = sym xq.held_at-q.ensures ∙ xq.in-Value-q.is in
    let xh = xq in let eh = sym xh.held_at-h.ensures ∙ xh.in-Value-h.is in
    let xk = xh in let ek = sym xk.held_at-k.ensures ∙ xk.in-Value.is in
    let a = xk.args in
    sym (position_found a.book.now a.terms a.at _ _ _ _ _ _ ek eh eq false (sym c.overdrawn_by.ensures ∙ c.if-overdrawn_by.false))

pub read_position_spec : {M : Type 1} → statement M
read_position_spec =
    tie.close
    (tie.spec
    held-at-requires
    enum-known-k
    enum_told
    refusal-in-requires
    returns
    held-at-requires-2
    enum-known-h
    enum-told-2
    refusal-in-requires-2
    returns-2
    held-at-requires-3
    enum-known-q
    enum-told-3
    refusal-in-requires-3
    returns-3
    overdrawn-by-requires
    returns-4
    returns-5)
