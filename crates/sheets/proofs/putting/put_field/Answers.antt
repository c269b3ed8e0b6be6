-- The tag and the length join with the value.
use Rattle.std.proofs.Common.{arith}
use Rattle.writing.specs.Written.{join}
use Rattle.sheets.proofs.Carries.{spelt_length, field_wrote}
use Rattle.sheets.proofs.putting.put_field.Goals as goal

pub returns : goal.returns
returns c =
    let a = c.args in
    let size = spelt_length a.mark a.value.now in
    (field_wrote a.mark a.tag a.value.now (join c.put_tag-behind.ensures c.put_respelled.ensures (omega arith)), omega arith)
