-- `terms::edges_after` meets its contract: the definition goes on as the code does, figure by figure.
-- Assumes nothing.
use borrow.Author.Tests.{le-leb, lt-leb}
use mathlib.Core.Path.{sym, ◌∙◌}
use borrow.Author.Rules.{rules}
use Rattle.terms.proofs.edges_after.Statement.{statement}
use Rattle.terms.proofs.edges_after.Tie as tie

figure-at-requires : tie.Need-figure_at-u-requires
figure-at-requires c κs = search rules

enum-known-u : tie.Need-enum_known-u
enum-known-u c = search rules

enum_told : tie.Need-enum_told-1
enum_told c = search rules

refusal-in-requires : tie.Need-refusal_in-requires
refusal-in-requires c κs = search rules

returns : tie.Need-returns-in_default
returns c =
    let t = c.in_default.is in
    simp (c.refusal_in.ensures, t, sym c.figure_at-u.ensures ∙ t)

figure-at-requires-2 : tie.Need-figure_at-v-requires
figure-at-requires-2 c κs = search rules

enum-known-v : tie.Need-enum_known-v
enum-known-v c = search rules

enum-told-2 : tie.Need-enum_told-in_default-v
enum-told-2 c = search rules

refusal-in-requires-2 : tie.Need-refusal_in-requires-in_default-v
refusal-in-requires-2 c κs = search rules

returns-2 : tie.Need-returns-in_default-v
returns-2 c =
    let xu = c in let eu = sym xu.figure_at-u.ensures ∙ xu.in-Value.is in
    let t = c.in_default-v.is in
    simp (c.refusal_in-in_default-v.ensures, t, eu, sym c.figure_at-v.ensures ∙ t)

returns-3 : tie.Need-returns-then-edge1-edge2
returns-3 c =
    let xv = c in let ev = sym xv.figure_at-v.ensures ∙ xv.in-Value-v.is in
    let xu = xv in let eu = sym xu.figure_at-u.ensures ∙ xu.in-Value.is in
    simp (eu, ev, le-leb _ _ c.if-edge1-edge2.true)

returns-4 : tie.Need-returns
returns-4 c =
    let xv = c in let ev = sym xv.figure_at-v.ensures ∙ xv.in-Value-v.is in
    let xu = xv in let eu = sym xu.figure_at-u.ensures ∙ xu.in-Value.is in
    simp (eu, ev, lt-leb _ _ c.if-edge1-edge2.false)

pub edges_after_spec : {M : Type 1} → statement M
edges_after_spec =
    tie.close
    (tie.spec
    figure-at-requires
    enum-known-u
    enum_told
    refusal-in-requires
    returns
    figure-at-requires-2
    enum-known-v
    enum-told-2
    refusal-in-requires-2
    returns-2
    returns-3
    returns-4)
