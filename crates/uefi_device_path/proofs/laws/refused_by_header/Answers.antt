use Rattle.uefi_device_path.proofs.Headers.{refused_by_header}
use Rattle.uefi_device_path.proofs.laws.refused_by_header.Goals as goal

pub returns : goal.returns
returns c bytes others error is refused agree = refused_by_header bytes others error is refused agree
