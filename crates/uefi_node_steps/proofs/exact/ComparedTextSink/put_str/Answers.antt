use Rattle.std.specs.Result.{result_map_both}
use Rattle.uefi_node_steps.proofs.Comparing.{one_part}
use Rattle.uefi_node_steps.proofs.exact.ComparedTextSink.put_str.Goals as goal

pub returns : goal.returns
returns g c = one_part (λ s. result_map_both g.T.Text.codes (λ s. s) s.left) _ _ _ _ c.as_bytes.ensures.value c.then_printed-self.ensures
