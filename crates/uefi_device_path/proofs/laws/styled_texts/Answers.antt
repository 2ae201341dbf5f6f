use Rattle.uefi_device_path.proofs.PrintedReading.{printed_stops, read_is_printed}
use Rattle.uefi_device_path.proofs.StyledReading.{faults_within, printed_is_read, read_told, reads_mean, stop_is_read, stops_mean}
use Rattle.uefi_device_path.proofs.laws.styled_texts.Goals as goal

pub returns : goal.returns
returns c =
    let styled = c.styled_nodes_are_read.ensures in
    let laws = c.nodes_are_read.ensures in
    record {
      reads = λ style text. reads_mean style text styled.starts styled.ends;
      stops_where = λ style text. stops_mean style text styled.starts styled.ends;
      within = λ style text. faults_within style text styled.starts styled.ends c.faults_lie_within.ensures;
      told = λ style text. read_told style text styled.takes styled.starts styled.ends;
      printed = printed_is_read laws.fits laws.starts laws.again styled.again styled.ends;
      is_printed = read_is_printed styled.starts styled.exactly styled.ends laws.takes laws.fits;
      printed_stops = printed_stops styled.starts styled.exactly styled.ends styled.again styled.takes laws.takes laws.again laws.fits;
      stop_is_read = stop_is_read laws.fits laws.starts laws.again styled.again styled.ends laws.takes;
    }
