use Rattle.uefi_node_reader.proofs.StyledLaws.{styled_fault_within}
use Rattle.uefi_node_reader.proofs.styles.faults_lie_within.Goals as goal

pub returns : goal.returns
returns c = styled_fault_within
