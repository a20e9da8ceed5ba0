use Rattle.std.proofs.Common.{take, sym}
use Rattle.std.proofs.lemmas.Bool.Decides.{same_from_decides, Decides-eqb}
use Rattle.std.proofs.lemmas.Slice.Eq.{slice_eq-Decides, bytes_eq-Decides}
use Rattle.executable.specs.Questions.{mark}
use Rattle.executable.proofs.header.Header.is_marked.Goals as goal

pub returns : goal.returns
returns c =
    let bs = c.args.self.now.bytes.now in
    let told = slice_eq-Decides Decides-eqb mark (take 16 bs) _ c.starts_with.ensures.value in
    same_from_decides _ _ (λ e. sym (told.0 e), λ e. told.1 (sym e)) (bytes_eq-Decides (take 16 bs) mark)
