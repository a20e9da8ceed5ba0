use Rattle.std.proofs.Common.{◌≡◌, ◌+◌, take, drop}
use Rattle.std.proofs.lemmas.List.{take_rest, drop-drop}
use Rattle.executable.specs.Questions.{code_size}
use Rattle.executable.proofs.header.Header.parts.Goals as goal

pub returns : goal.returns
returns c =
    let bs = c.args.self.now.bytes.now in
    let rest = take_rest bs 512 in
    let code : c.split_at.result.0.now ≡ take (code_size bs) (drop 512 bs) = cc in
    let constants : c.split_at.result.1.now ≡ drop (512 + code_size bs) bs = cc (drop-drop (code_size bs) 512 bs) in
    cc
