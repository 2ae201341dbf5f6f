use Rattle.uefi_text.proofs.Puts.{puts_eight}
use Rattle.uefi_node_steps.proofs.Prints.{ipv6_text}
use Rattle.uefi_node_steps.proofs.printing.put_ipv6.Goals as goal

pub returns : goal.returns
returns g c = puts_eight _ _ _ _ _ _ _ _ _ _ _ _ _ _ _ _ _ _ _ c.put_bytes.ensures c.put_bytes-2.ensures c.put_bytes-3.ensures c.put_bytes-4.ensures
    c.put_bytes-5.ensures c.put_bytes-6.ensures c.put_bytes-7.ensures c.put_bytes-8.ensures (ipv6_text c.args.bytes.now)
