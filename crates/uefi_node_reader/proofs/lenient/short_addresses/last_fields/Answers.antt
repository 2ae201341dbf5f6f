use Rattle.std.proofs.Common.{◌≡◌, sym, arith}
use Rattle.std.specs.Prelude.{Some}
use Rattle.uefi_node_reader.specs.LenientFields.{any_number}
use Rattle.uefi_node_reader.proofs.LenientNumbers.{number_small}
use Rattle.uefi_node_reader.proofs.lenient.short_addresses.last_fields.Goals as goal

pub overflow_cast-result : goal.overflow_cast-result
overflow_cast-result g c =
    let e : any_number 256 (g.T.Text.bytes c.args.text) ≡ Some (c.in_ok-prefix_length.prefix_length, (g.T.Text.bytes c.in_ok-prefix_length.rest)) =
    sym (rw c.in_ok-prefix_length.was at c.any_number.ensures) in
    omega (arith, number_small 256 (g.T.Text.bytes c.args.text) c.in_ok-prefix_length.prefix_length (g.T.Text.bytes c.in_ok-prefix_length.rest) (omega arith) e)
