use Rattle.df_ntop.proofs.proving.report_on.Goals as goal

pub returns : goal.returns
returns c = record { verified_is = c.all_verified.ensures; text_is = c.in_ok-text.ensures; last_is = c.in_ok-last.ensures }
