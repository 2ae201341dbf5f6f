use Rattle.uefi_node_reader.proofs.StyledLaws.{printed_exactly, styled_again, styled_ends, styled_starts, styled_takes}
use Rattle.uefi_node_reader.proofs.styles.styled_nodes_are_read.Goals as goal

pub returns : goal.returns
returns c = record {
  takes = styled_takes;
  ends = styled_ends;
  starts = styled_starts;
  again = styled_again;
  exactly = printed_exactly;
}
