use Rattle.uefi_text.proofs.Puts.{puts_four}
use Rattle.uefi_node_steps.proofs.Prints.{ipv4_text}
use Rattle.uefi_node_steps.proofs.printing.put_ipv4.Goals as goal

pub returns : goal.returns
returns g c = puts_four _ _ _ _ _ _ _ _ _ _ _ c.put_octet.ensures c.put_octet-2.ensures c.put_octet-3.ensures c.put_octet-4.ensures (ipv4_text c.args.bytes.now)
