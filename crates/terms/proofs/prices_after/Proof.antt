-- `terms::prices_after` meets its contract: the definition goes on as the code does, figure by figure, and then with the edges.
-- Assumes nothing.
use Prim.Native.Char.{code}
use mathlib.Core.Path.{◌≡◌, sym, ap, ◌∙◌}
use lib.ListN.{drop}
use Rattle.rules.specs.declared.Form.{Form}
use Rattle.rules.specs.Figures.{price_form}
use Rattle.rules.specs.Fields.{fields_of}
use Rattle.fields.specs.Reading.{figure_from}
use borrow.Author.Rules.{rules}
use Rattle.terms.proofs.prices_after.Statement.{statement}
use Rattle.terms.proofs.prices_after.Tie as tie

-- S is read with the decimals of X
read-s : (f : tie.After-figure_at-s) → let a = f.args in
    f.figure_at-s.result ≡ figure_from a.at (code "S") (price_form a.decimals) (fields_of (drop a.at a.book.now))
read-s f =
    let a = f.args in
    f.figure_at-s.ensures ∙ ap (λ (form : Form). figure_from a.at (code "S") form (fields_of (drop a.at a.book.now))) f.price_form.ensures

price-form-requires : tie.Need-price_form-requires
price-form-requires c κs = search rules

figure-at-requires : tie.Need-figure_at-s-requires
figure-at-requires c κs = search rules

enum-known-s : tie.Need-enum_known-s
enum-known-s c = search rules

enum_told : tie.Need-enum_told-1
enum_told c = search rules

refusal-in-requires : tie.Need-refusal_in-requires
refusal-in-requires c κs = search rules

returns : tie.Need-returns-in_default
returns c =
    let t = c.in_default.is in
    simp (c.refusal_in.ensures, t, sym (read-s c.before.before) ∙ t)

figure-at-requires-2 : tie.Need-figure_at-l-requires
figure-at-requires-2 c κs = search rules

enum-known-l : tie.Need-enum_known-l
enum-known-l c = search rules

enum-told-2 : tie.Need-enum_told-in_default-l
enum-told-2 c = search rules

refusal-in-requires-2 : tie.Need-refusal_in-requires-in_default-l
refusal-in-requires-2 c κs = search rules

returns-2 : tie.Need-returns-in_default-l
returns-2 c =
    let xs = c in
    let es = sym (read-s c.before.before.before.before) ∙ xs.in-Value.is in
    let t = c.in_default-l.is in
    simp (c.refusal_in-in_default-l.ensures, t, es, sym c.figure_at-l.ensures ∙ t)

edges-after-requires : tie.Need-edges_after-requires
edges-after-requires c κs = search rules

returns-3 : tie.Need-returns
returns-3 c =
    let xl = c in
    let el = sym xl.figure_at-l.ensures ∙ xl.in-Value-l.is in
    let xs = xl in
    let es = sym (read-s c.before.before.before.before) ∙ xs.in-Value.is in
    c.edges_after.ensures ∙ simp (es, el)

pub prices_after_spec : {M : Type 1} → statement M
prices_after_spec =
    tie.close
    (tie.spec
    price-form-requires
    figure-at-requires
    enum-known-s
    enum_told
    refusal-in-requires
    returns
    figure-at-requires-2
    enum-known-l
    enum-told-2
    refusal-in-requires-2
    returns-2
    edges-after-requires
    returns-3)
