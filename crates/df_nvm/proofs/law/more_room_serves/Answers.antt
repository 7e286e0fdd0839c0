use Rattle.df_nvm.proofs.Stays.{run_more}
use Rattle.df_nvm.proofs.law.more_room_serves.Goals as goal

pub returns : goal.returns
returns c code start fuel words frames more others le les stays = run_more code start fuel words frames more others le les stays
