-- Bytes begin with one path, or are refused.
use Rattle.uefi_device_path.specs.Views.{nodes_of}
use Rattle.uefi_device_path.proofs.Splits.{path_once, refused_no_path, refused_once}
use Rattle.uefi_device_path.proofs.device_path.DevicePath.from_bytes.Goals as goal

pub returns-in-Ok-clause-only : goal.returns-in-Ok-clause-only
returns-in-Ok-clause-only c = λ nodes path.
    path_once c.args.bytes.now nodes (nodes_of c.in-Ok.path) path (_, c.in-Ok.ensures.ok)

pub returns-in-Err-clause-accepts : goal.returns-in-Err-clause-accepts
returns-in-Err-clause-accepts c =
    (λ ok. absurd (cc ok), λ path. absurd (refused_no_path c.args.bytes.now _ c.in-Err.ensures.refusal path.0 path.1))

pub returns-in-Err-clause-only_refusal : goal.returns-in-Err-clause-only_refusal
returns-in-Err-clause-only_refusal c = λ other refused.
    refused_once c.args.bytes.now _ other c.in-Err.ensures.refusal refused
