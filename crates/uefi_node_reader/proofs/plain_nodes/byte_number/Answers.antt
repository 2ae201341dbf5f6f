use Rattle.std.proofs.Common.{◌≡◌, false, sym, arith}
use Rattle.std.specs.Prelude.{Some}
use Rattle.uefi_node_reader.specs.Numerals.{number_read}
use Rattle.uefi_node_reader.proofs.Digits.{decimal_base, number_takes}
use Rattle.uefi_node_reader.proofs.plain_nodes.byte_number.Goals as goal

pub overflow_cast-result : goal.overflow_cast-result
overflow_cast-result g c =
    let e : number_read 10 256 (g.T.Text.bytes c.args.text) ≡ Some (c.in_ok-value.value, (g.T.Text.bytes c.in_ok-value.rest)) = sym (rw c.in_ok-value.was at c.number.ensures) in
    let small = number_takes 10 false decimal_base 256 (omega arith) (omega arith) (g.T.Text.bytes c.args.text) c.in_ok-value.value (g.T.Text.bytes c.in_ok-value.rest) e in
    omega (arith, small.1)
