use Rattle.std.proofs.Common.{◌≤◌, ◌+◌, suc, length, vec_len, vec_capacity, arith}
use Rattle.df_nvm.specs.Frames.{state_of}
use Rattle.df_nvm.specs.Room.{words_in_frames}
use Rattle.df_nvm.specs.Stack.{room_of, words_of}
use Rattle.df_nvm.proofs.Filling.{all_frames, fits_words, on_ok}
use Rattle.df_nvm.proofs.vm.Vm.reserve.Goals as goal

pub returns-clause-room : goal.returns-clause-room
returns-clause-room c =
    let m = c.reserve.new.self in
    on_ok c.reserve.result (c.args.words ≤ room_of m.stack) (words_in_frames (state_of m).frames + c.args.words ≤ words_of m.stack) (λ le. fits_words m c.args.words le) c.reserve.ensures.room

pub returns-clause-frame_room : goal.returns-clause-frame_room
returns-clause-frame_room c =
    let m = c.reserve.new.self in
    on_ok c.reserve.result (vec_len m.waiting + c.args.frames ≤ vec_capacity m.waiting) (length (state_of m).frames + c.args.frames ≤ suc (vec_capacity m.waiting)) (λ le. omega (arith, all_frames m, le)) c.reserve.ensures.frame_room
