-- A case that is not cut is whole. Assumes nothing.
use Rattle.std.proofs.Common.{refl}
use Rattle.replay.proofs.Replaying.{is_whole}
use Rattle.play_replay.proofs.case.PlayReplay.replay.Goals as goal

pub replay_case-requires : goal.replay_case-requires
replay_case-requires c = is_whole _ _ _ _ _ refl refl c.requires
