use Rattle.std.proofs.Common.{false, arith, sym}
use Rattle.std.proofs.lemmas.Fmt.{hex_byte}
use Rattle.path_report.proofs.names.put_byte.Goals as goal

pub returns : goal.returns
returns c =
    let digits = hex_byte false c.args.byte (omega arith) in
    let escaped = sym c.if-is_plain_byte.ensures in
    rw escaped (rw (c.laid_out.ensures, c.in_radix.ensures, digits) at c.in_ok-write.ensures.bytes)
