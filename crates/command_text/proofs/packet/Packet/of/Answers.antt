use Rattle.std.proofs.Common.{◌≡◌, length, arith}
use Rattle.lines.proofs.Lay.{laid_front}
use Rattle.command_text.proofs.packet.Packet.of.Goals as goal

pub returns-clause-value : goal.returns-clause-value
returns-clause-value c =
    let size : c.put_text-size.result ≡ length c.args.text.now = omega (arith, c.put_text-size.ensures.value) in
    rw (size, c.put_text-size.ensures.after) (laid_front c.args.text.now _)
