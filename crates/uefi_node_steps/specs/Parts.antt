-- The parts of the packed table: texts, bytes and steps, by their numbers.
use Rattle.std.specs.Prelude.{ℕ, List, ◌∷◌, map}
use Rattle.uefi_device_nodes.specs.Parts.{part_of}
use Rattle.uefi_node_steps.specs.Printing.{form_by}
use Rattle.uefi_node_steps.specs.Steps.{Step}
use Rattle.uefi_node_steps.specs.Table.{Form}
use Rattle.uefi_node_steps.specs.declared.packed.TheConstants.{BYTE_STARTS, BYTES, STEP_STARTS, STEPS, TEXT_STARTS, TEXTS}
use Rattle.uefi_node_steps.specs.declared.parts.PackedBytes.{PackedBytes}
use Rattle.uefi_node_steps.specs.declared.parts.PackedStep.{PackedStep}
use Rattle.uefi_node_steps.specs.declared.parts.PackedStep.TheVariants.{Literal as PackedLiteral, Field as PackedFieldStep, Data as PackedData, Many as PackedMany}
use Rattle.uefi_node_steps.specs.declared.parts.PackedSteps.{PackedSteps}
use Rattle.uefi_node_steps.specs.declared.parts.PackedText.{PackedText}
use Rattle.uefi_node_steps.specs.declared.steps.FormOf.{FormOf}
use Rattle.uefi_node_steps.specs.declared.steps.StepOf.TheVariants.{Literal, Field, Data, Many}

-- a packed text, unpacked
unfoldable pub packed_text : PackedText → List ℕ
packed_text t = part_of TEXTS TEXT_STARTS t.number

-- packed bytes, each with its offset and its value
unfoldable pub packed_bytes : PackedBytes → List (ℕ × ℕ)
packed_bytes b = part_of BYTES BYTE_STARTS b.number

-- the packed steps after the first
unfoldable pub other_steps : PackedSteps → List PackedStep
other_steps s = part_of STEPS STEP_STARTS s.others

-- a packed step, unpacked
abbrev pub packed_step : PackedStep → Step
packed_step (PackedLiteral text) = Literal (record { now = packed_text text })
packed_step (PackedFieldStep f) = Field (record {
  shape = f.shape;
  place = f.place;
  width = f.width;
  spare = f.spare;
})
packed_step (PackedData encoding) = Data encoding
packed_step (PackedMany items) = Many items

-- packed steps, unpacked
abbrev pub packed_steps : PackedSteps → List Step
packed_steps s = Literal (record { now = packed_text s.start }) ∷ map packed_step (other_steps s)

-- a packed form, unpacked
abbrev pub packed_form : FormOf PackedSteps PackedBytes → Form
packed_form form = form_by packed_steps packed_bytes form
