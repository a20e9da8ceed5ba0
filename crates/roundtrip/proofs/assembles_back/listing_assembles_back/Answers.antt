use Rattle.std.proofs.Common.{refl}
use Rattle.roundtrip.proofs.Back.{back}
use Rattle.roundtrip.proofs.assembles_back.listing_assembles_back.Goals as goal

pub returns : goal.returns
returns c = record { answer = refl; law = back }
