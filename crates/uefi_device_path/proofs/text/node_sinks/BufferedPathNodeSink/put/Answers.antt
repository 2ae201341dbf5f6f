use Rattle.uefi_device_path.proofs.HeldPaths.{one_held}
use Rattle.uefi_device_path.proofs.text.node_sinks.BufferedPathNodeSink.put.Goals as goal

pub returns : goal.returns
returns g c = λ start nodes (same, more).
    let put = c.put_if_room-self.ensures in
    (same, one_held start.buffer.now _ _ start.len _ _ nodes _ more put.end c.put_if_room-self.auto.buffer put.exact put.holds)
