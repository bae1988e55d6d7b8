use Rattle.run_save.proofs.following.Resuming.{resumes}
use Rattle.run_save.proofs.following.laws.law_resumes.Goals as goal

pub returns : goal.returns
returns c = resumes
