use Rattle.std.proofs.Common.{◌≡◌, ℕ, length, map, subst, sym, true}
use Rattle.std.specs.List.{list_all}
use Rattle.uefi_node_steps.specs.Steps.{is_sound_step}
use Rattle.uefi_node_steps.specs.Printing.{step_by}
use Rattle.uefi_device_nodes.proofs.Lists.{all_at}
use Rattle.uefi_node_steps.proofs.reading.read_steps.Goals as goal

pub read_step-requires : goal.read_step-requires
read_step-requires g c = all_at (step_by (λ l. l.now)) (is_sound_step (length c.loop-step.fixed)) c.args.steps.now c.loop-step.step-index _ c.loop-step-test.true
    (subst (λ (n : ℕ). list_all (is_sound_step n) (map (step_by (λ l. l.now)) c.args.steps.now) ≡ true) (sym c.loop-step.auto.fixed) c.requires)
