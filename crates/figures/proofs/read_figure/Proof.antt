-- `figures::read_figure` meets its contract: `asked` of what is written, a number or why there is none.
-- Assumes nothing.
use Rattle.std.proofs.Common.{◌≡◌, ℕ, List, [], ◌∷◌, sym, refl, ap, ◌∙◌, inl, inr, arith, rules}
use types.Run.{OneOf}
use denote.Enum.Declared.{tag_of}
use Rattle.rules.specs.contracts.Written.{the_type}
use Rattle.rules.specs.declared.Form.{Form}
use Rattle.rules.specs.declared.Written.{Written}
use Rattle.rules.specs.declared.Written.TheVariants.{Number, Comma, Malformed}
use Rattle.rules.specs.Figures.{written_of, asked, figure_of}
use Rattle.figures.specs.Numbers.{refused_as_of}
use Rattle.figures.proofs.read_figure.Statement.{statement}
use Rattle.figures.proofs.read_figure.Tie as tie

asked_by : (form : Form) (v : List ℕ) (w : Written) → w ≡ written_of v → figure_of form v ≡ asked form w
unfolding figure_of
asked_by form v w e = ap (asked form) (sym e)

-- the second and the third variant
refused_as : (form : Form) (w : Written) → OneOf (1 ∷ 2 ∷ []) (tag_of the_type w) → asked form w ≡ refused_as_of w
refused_as form (Number n d) (inl e) = let z : ◌≡◌ {A = ℕ} 0 1 = e in absurd (omega arith)
refused_as form (Number n d) (inr e) = let z : ◌≡◌ {A = ℕ} 0 2 = e in absurd (omega arith)
refused_as form Comma h = refl
refused_as form Malformed h = refl

read-written-requires : tie.Need-read_written-written-requires
read-written-requires c κs = search rules

enum-known-written : tie.Need-enum_known-written
enum-known-written c = search rules

refused-requires : tie.Need-refused-requires
refused-requires c κs = search rules

returns : tie.Need-returns-in_default
returns c =
    let r = c in
    let a = r.args in
    c.refused.ensures
    ∙ sym (asked_by a.form a.v.now r.read_written-written.result r.read_written-written.ensures ∙ refused_as a.form r.read_written-written.result c.in_default.in_default-own.keys2)

allowed-requires : tie.Need-allowed-requires
allowed-requires c κs = search rules

returns-2 : tie.Need-returns
returns-2 c =
    let r = c in
    let a = r.args in
    c.allowed.ensures
    ∙ sym (asked_by a.form a.v.now r.read_written-written.result r.read_written-written.ensures ∙ ap (asked a.form) c.in-Number.is)

pub read_figure_spec : {M : Type 1} → statement M
read_figure_spec =
    tie.close
    (tie.spec
    read-written-requires
    enum-known-written
    refused-requires
    returns
    allowed-requires
    returns-2)
