use Rattle.std.proofs.Common.{string_bytes}
use Rattle.drust_top.proofs.Replies.{replay_status}
use Rattle.drust_top.proofs.top.answer_to.Goals as goal

pub returns-in_ok-status-in-Replay-clause-status : goal.returns-in_ok-status-in-Replay-clause-status
returns-in_ok-status-in-Replay-clause-status g c = replay_status c.args.bytes.now c.in_ok-status-in-Replay.status (string_bytes c.in_ok-status-in-Replay.text) c.in_ok-status-in-Replay.ensures
