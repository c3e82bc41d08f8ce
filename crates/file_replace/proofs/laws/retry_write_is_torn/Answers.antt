use Rattle.file_replace.proofs.Flawed.{retry_write_is_torn, retry_write_leaves}
use Rattle.file_replace.proofs.laws.retry_write_is_torn.Goals as goal

pub returns : goal.returns
returns c = record { verdict = retry_write_is_torn; contents = retry_write_leaves }
