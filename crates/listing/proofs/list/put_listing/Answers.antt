use Rattle.std.proofs.Common.{sym, rules}
use Rattle.executable.specs.Check.{contents}
use Rattle.listing.specs.Listing.{listing}
use Rattle.output.specs.Writes.{Put}
use Rattle.output.proofs.Puts.{put_none, put_same, put_then}
use Rattle.listing.proofs.Room.{listing_parts}
use Rattle.listing.proofs.list.put_listing.Goals as goal

pub returns : goal.returns
returns c =
    let all : Put c.new-writer.result (listing (contents c.args.executable)) c.put_number_line-2.new.writer =
    put_same (sym (listing_parts (contents c.args.executable)))
    (put_then c.put_number_line.ensures (put_then c.put_segment.ensures (put_then c.put_segment-2.ensures (put_then c.put_number_line-2.ensures (put_none _))))) in
    search rules
