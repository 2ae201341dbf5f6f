-- The node that was read is the one that the bytes begin with.
use Rattle.std.proofs.Common.{◌≡◌, ◌∙◌, ap, sym, List, ℕ, None, arith}
use Rattle.std.proofs.lemmas.Grind.{common_steps}
use Rattle.std.proofs.lemmas.List.Elements.{All-from_get_or}
use Rattle.std.specs.Prelude.{All}
use Rattle.uefi_text.specs.Packed.{IsByte}
use Rattle.uefi_device_path.proofs.CheckedRuns.{begins_node}
use Rattle.uefi_device_path.proofs.Splits.{first-node_bytes}
use Rattle.uefi_device_path.specs.NodeFaults.{node_fault}
use Rattle.uefi_device_path.specs.Nodes.{first_node}
use Rattle.uefi_device_path.specs.NodeViews.{node_of}
use Rattle.nardcorbel.specs.DevicePaths.{BeginWithNode}
use Rattle.nardcorbel.specs.Reading.{read_node}
use Rattle.nardcorbel.proofs.CallOutputs.{text_shown}
use Rattle.nardcorbel.proofs.device_paths.formats.nard_node_format.Goals as goal

begin : (bytes : List ℕ) → All IsByte bytes → node_fault bytes ≡ None → BeginWithNode bytes (first_node bytes)
begin bytes all none = (_, (begins_node bytes all none).1)

pub returns-in_default-clause-node : goal.returns-in_default-clause-node
returns-in_default-clause-node c =
    begin c.args.bytes.now (All-from_get_or IsByte c.args.bytes.now 0 (λ k within. omega (arith, c.type_inv.bytes k)))

pub returns-in-Specified-clause-node : goal.returns-in-Specified-clause-node
returns-in-Specified-clause-node c =
    begin c.args.bytes.now (All-from_get_or IsByte c.args.bytes.now 0 (λ k within. omega (arith, c.type_inv.bytes k)))

pub returns-in-Libefivar-clause-node : goal.returns-in-Libefivar-clause-node
returns-in-Libefivar-clause-node c =
    begin c.args.bytes.now (All-from_get_or IsByte c.args.bytes.now 0 (λ k within. omega (arith, c.type_inv.bytes k)))

pub returns-in-Specified-clause-shows : goal.returns-in-Specified-clause-shows
unfolding read_node
returns-in-Specified-clause-shows c =
    let first : first_node c.args.bytes.now ≡ node_of c.in-Ok.found =
    ap first_node c.in-Ok.ensures.ok ∙ first-node_bytes (node_of c.in-Ok.found) c.in-Ok.field-0-1.now in
    let none : node_fault c.args.bytes.now ≡ None = sym c.in-Ok.ensures.refusal in
    rw (sym c.printed_form.ensures ∙ c.in-Some.is, c.in-Specified.is, none, first, ← c.display-text.ensures)
    (text_shown _ c.args.buffer.now _ _ c.args.len.now c.args.fault.now _ _ _ (grind (arith, common_steps)) c.write_utf8.ensures.len c.write_utf8.ensures.buffer c.report.ensures.shows)
