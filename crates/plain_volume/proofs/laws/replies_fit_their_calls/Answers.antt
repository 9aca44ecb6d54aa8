use Rattle.plain_volume.proofs.Answers.{reply_fits}
use Rattle.plain_volume.proofs.laws.replies_fit_their_calls.Goals as goal

pub returns : goal.returns
returns c = reply_fits
