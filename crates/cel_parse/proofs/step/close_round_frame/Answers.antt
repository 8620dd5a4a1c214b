use Rattle.cel_parse.proofs.step.close_round_frame.Goals as goal

pub returns-in-Asked : goal.returns-in-Asked
returns-in-Asked c = λ fs. rw c.in-Asked.is (c.asked.ensures fs)
