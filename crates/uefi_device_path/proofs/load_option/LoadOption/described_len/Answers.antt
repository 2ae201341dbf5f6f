use Rattle.std.proofs.Common.{arith}
use Rattle.uefi_device_path.specs.Views.{entry_of}
use Rattle.uefi_device_path.proofs.OptionBytes.{long-with_description}
use Rattle.uefi_device_path.proofs.load_option.LoadOption.described_len.Goals as goal

pub overflow_add-result-2 : goal.overflow_add-result-2
overflow_add-result-2 c = omega (arith, c.after_description-rest.ensures.bound)

pub returns : goal.returns
returns c = long-with_description (entry_of c.args.self.now) c.args.units.now c.after_description-rest.result.now c.after_description-rest.ensures.bytes
