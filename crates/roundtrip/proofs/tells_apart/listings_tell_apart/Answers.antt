use Rattle.std.proofs.Common.{refl}
use Rattle.roundtrip.proofs.Back.{apart}
use Rattle.roundtrip.proofs.tells_apart.listings_tell_apart.Goals as goal

pub returns : goal.returns
returns c = record { answer = refl; law = apart }
