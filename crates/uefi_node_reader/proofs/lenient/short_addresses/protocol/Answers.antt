use Rattle.std.proofs.Common.{◌≡◌, sym, arith}
use Rattle.std.specs.Prelude.{Some}
use Rattle.uefi_node_reader.specs.LenientFields.{any_number}
use Rattle.uefi_node_reader.proofs.LenientNumbers.{number_small}
use Rattle.uefi_node_reader.proofs.lenient.short_addresses.protocol.Goals as goal

pub overflow_cast-result : goal.overflow_cast-result
overflow_cast-result g c =
    let e : any_number 65536 (g.T.Text.bytes c.args.text) ≡ Some (c.in_ok-number.number, (g.T.Text.bytes c.in_ok-number.rest)) = sym (rw c.in_ok-number.was at c.any_number.ensures) in
    omega (arith, number_small 65536 (g.T.Text.bytes c.args.text) c.in_ok-number.number (g.T.Text.bytes c.in_ok-number.rest) (omega arith) e)
