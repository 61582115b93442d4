use Rattle.std.proofs.lemmas.Result.{on_err_weaker, on_ok_weaker}
use Rattle.kp_types.proofs.Filing.{put_grown, put_grown_front}
use Rattle.kp_folder.proofs.writing.put_file.Goals as goal

pub returns-clause-ok : goal.returns-clause-ok
returns-clause-ok g c =
    on_ok_weaker c.append.result (λ grown. put_grown _ _ _ c.args.name.now _ c.in_ok-begin.ensures.ok grown) c.append.ensures.ok

pub returns-clause-err : goal.returns-clause-err
returns-clause-err g c =
    on_err_weaker c.append.result (λ grown. put_grown_front _ _ _ c.args.name.now _ c.in_ok-begin.ensures.ok grown) c.append.ensures.err
