-- `fields::figure_at` meets its contract: the value that stands where the field is due says the figure.
-- Assumes nothing.
use borrow.Author.Rules.{rules}
use Prim.Native.Nat.{ℕ, ◌≤◌}
use mathlib.Core.Path.{sym, ap, ◌∙◌}
use mathlib.Core.List.{List}
use lib.ListN.{length}
use Rattle.fields.specs.Reading.{figure_at}
use Rattle.fields.proofs.Due.{Due, due_there, due_refused}
use Rattle.fields.proofs.figure_at.Statement.{statement}
use Rattle.fields.proofs.figure_at.Tie as tie

-- the field that stands there
module _ (c : tie.In-There) where
  abbrev book : List ℕ
  book = c.args.book.now

  abbrev at : ℕ
  at = c.args.at

  abbrev start : ℕ
  start = c.in-There.start

  abbrev end : ℕ
  end = c.in-There.end

  there : Due book at c.args.tag start end
  there = due_there book at _ start end (sym c.due_at.ensures ∙ c.in-There.is)

  order : start ≤ end
  order = there.order

  inside : end ≤ length book
  inside = there.inside

due-at-requires : tie.Need-due_at-requires
due-at-requires c κs = search rules

enum-known-start : tie.Need-enum_known-start
enum-known-start c = search rules

sub-read-figure : tie.Need-slice_bounds-read_figure-count
sub-read-figure c = order c

part-read-figure-start : tie.Need-slice_bounds-read_figure-start
part-read-figure-start c = let l = order c in let m = inside c in search rules

part-read-figure-end : tie.Need-slice_bounds-read_figure-end
part-read-figure-end c = let l = order c in let m = inside c in search rules

read-figure-requires : tie.Need-read_figure-requires
read-figure-requires c κs = search rules

told-requires : tie.Need-told-requires
told-requires c κs = search rules

enum-known-r : tie.Need-enum_known-r
enum-known-r c = search rules

returns : tie.Need-returns-in-There
returns c =
    let k = c in
    c.told.ensures ∙ ap (figure_at (at c.before.before.before) (end c.before.before.before)) c.read_figure.ensures ∙ sym ((there c.before.before.before).figure c.args.form)

returns-2 : tie.Need-returns-in-Refused
returns-2 c =
    let a = c.args in
    sym (due_refused a.book.now a.at a.tag _ (sym c.due_at.ensures ∙ c.in-Refused.is) a.form)

pub figure_at_spec : {M : Type 1} → statement M
figure_at_spec =
    tie.close
    (tie.spec
    due-at-requires
    enum-known-start
    sub-read-figure
    part-read-figure-start
    part-read-figure-end
    read-figure-requires
    told-requires
    enum-known-r
    returns
    returns-2)
