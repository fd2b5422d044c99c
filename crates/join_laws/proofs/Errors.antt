-- Errors that are met, by the laws of blocks and chains.
use Rattle.block_laws.proofs.Runs.{blocks_keep_errors}
use Rattle.edge_chain_laws.proofs.Along.{chains_keep_errors}
use Rattle.join_laws.specs.Keeping.{BlocksKeep, ChainsKeep}

pub blocks_keep : BlocksKeep
blocks_keep g h plan flow joined is draws kind at (v, (after, run, error)) =
    let ((end, there), same) = blocks_keep_errors g h plan draws v after kind at flow joined is run error in
    (v, (end, there, same))

pub chains_keep : ChainsKeep
chains_keep g edges is draws kind at (v, (after, run, error)) = (v, (after, chains_keep_errors g edges draws v after kind at is run error, error))
