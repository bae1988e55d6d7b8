use Rattle.np_calculus.proofs.FrameRule.{frame_back, frame_rule, keeps_lodged, keeps_of_site}
use Rattle.np_calculus.proofs.laws.law_frame.Goals as goal

pub returns-clause-rule : goal.returns-clause-rule
returns-clause-rule c = frame_rule

pub returns-clause-back : goal.returns-clause-back
returns-clause-back c = frame_back

pub returns-clause-lodged : goal.returns-clause-lodged
returns-clause-lodged c = keeps_lodged

pub returns-clause-of_site : goal.returns-clause-of_site
returns-clause-of_site c = keeps_of_site
