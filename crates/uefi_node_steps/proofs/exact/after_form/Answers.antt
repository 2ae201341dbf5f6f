use Rattle.std.specs.Result.{result_map_both}
use Rattle.uefi_node_steps.proofs.Comparing.{compared}
use Rattle.uefi_node_steps.proofs.exact.after_form.Goals as goal

pub returns : goal.returns
returns g c = compared (λ s. result_map_both g.T.Text.codes (λ s. s) s.left) _ _ _ c.put_form.ensures
